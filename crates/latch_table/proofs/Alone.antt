-- What a pass with the whole room knows: it is alone, and has noted all that was since the opening.
use Rattle.std.proofs.Common.{◌≡◌, ◌≢◌, ℕ, zero, suc, ◌+◌, ◌<◌, ◌≤◌, cond, List, [], ◌∷◌, ◌++◌, length, refl, sym, ap}
use Rattle.std.proofs.Common.{subst, ◌∙◌, inl, inr, arith, ne_eqb, length-append}
use mathlib.Core.Logic.{dite}
use mathlib.Core.Option.{some, some-ne-none}
use native.Mathlib.Decide.{ℕ_discrete}
use lib.ListN.{get_elem?}
use Rattle.core_state.specs.Log.{Log, In}
use Rattle.latch_table.specs.declared.slots.Journaled.{Ghosts as Journaled}
use Rattle.latch_table.specs.declared.states.PassState.{PassState}
use Rattle.latch_table.specs.Shapes.{Shape, total, times}
use Rattle.latch_table.specs.Lines.{AddUp, IsSpent, Knows, is_since}
use Rattle.latch_table.specs.Closing.{IsAllSince, HadSeenAll}
use Rattle.latch_table.proofs.Stay.{spent_others}

total_none : {V : Type 0} (f : V → ℕ) (vs : List V) → ((j : ℕ) (w : V) → get_elem? vs j ≡ some w → f w ≡ 0)
    → total f vs ≡ 0
total_none f [] none = refl
total_none f (x ∷ vs) none =
    let h = none zero x refl in
    let r = total_none f vs (λ j w p. none (suc j) w p) in omega arith

-- a sum of which all others have nothing
total_alone : {V : Type 0} (f : V → ℕ) (vs : List V) (i : ℕ) (v : V) → get_elem? vs i ≡ some v
    → ((j : ℕ) (w : V) → j ≢ i → get_elem? vs j ≡ some w → f w ≡ 0) → total f vs ≡ f v
total_alone f [] i v at none = absurd (some-ne-none v (sym at))
total_alone f (x ∷ vs) zero v at none =
    let e : f x ≡ f v = ap f (cc at) in
    let r = total_none f vs (λ j w p. none (suc j) w (λ q. omega arith) p) in omega arith
total_alone f (x ∷ vs) (suc i) v at none =
    let h = none zero x (λ q. omega arith) refl in
    let r = total_alone f vs i v at (λ j w ne p. none (suc j) w (λ q. ne (let z : j ≡ i = omega arith in z)) p) in
    omega arith

-- what is counted is in the list
in_times : (k : ℕ) (xs : List ℕ) → 0 < times k xs → In k xs
in_times k [] lt = absurd (omega arith)
in_times k (x ∷ xs) lt = dite (ℕ_discrete x k)
    (λ (e : x ≡ k). inl (sym e))
    (λ ne.
    let rest : 0 < 0 + times k xs = subst (λ b. 0 < cond b 1 0 + times k xs) (ne_eqb x k ne) lt in
    inr (in_times k xs (omega arith)))

-- the last record is one since the opening, where there is one
last_since : (n m : ℕ) → n < m → is_since n m m ≡ 1
last_since n m lt = grind (arith, Rattle.std.proofs.lemmas.Bool.Decides.nat_tests)

module _ {J : Type 0} (journal : Journaled J) (start : J) (h : Shape J) (views : List (PassState J))
    (sums : AddUp journal start h views)
    (knows : (j : ℕ) (v : PassState J) → get_elem? views j ≡ some v → Knows journal start h j v)
    (id : ℕ) (v : PassState J) (at : get_elem? views id ≡ some v) (full : v.room ≡ 16) where
  -- it has all of a sum of which passes without room have nothing
  all_of : (f : PassState J → ℕ) → ((w : PassState J) → IsSpent w → f w ≡ 0)
      → total f views ≡ f v
  all_of f none = total_alone f views id v at
      (λ j w other there. none w (spent_others journal start h views sums knows id v at full j w other there))

  owns : (n : ℕ) → times n v.own ≡ is_since (journal.length_of start) (length h.log) n
  owns n = sym (all_of (λ (y : PassState J). times n y.own) (λ w t. ap (times n) t.own)) ∙ sums.own n

  has_seen : journal.length_of start ≤ length v.seen → h.log ≡ v.seen
  has_seen le = go (knows id v at).seen.later (knows id v at).seen.goes_on
    where
      go : (rs : Log) → h.log ≡ rs ++ v.seen → h.log ≡ v.seen
      go [] e = e
      go (r ∷ rs) e =
          let n = ap length e in
          let m = length-append (r ∷ rs) v.seen in
          let more : length v.seen < length h.log = omega arith in
          let one = last_since (journal.length_of start) (length h.log) (omega arith) in
          let is = owns (length h.log) in
          let own = (knows id v at).own (length h.log) (in_times (length h.log) v.own (omega arith)) in
          absurd (omega arith)

  pub is_alone : IsAllSince journal start h.journal v h.log
  is_alone = record {
    own = owns;
    faults = ap (λ n. journal.faults start + n) (sym (all_of (λ (y : PassState J). y.faults) (λ w t. t.faults)))
        ∙ sums.faults;
    write_faults = ap (λ n. journal.write_faults start + n)
        (sym (all_of (λ (y : PassState J). y.write_faults) (λ w t. t.write_faults))) ∙ sums.write_faults;
    seen = has_seen;
  }

module _ {J : Type 0} (journal : Journaled J) (start : J) (h : Shape J) (views : List (PassState J))
    (sums : AddUp journal start h views)
    (knows : (j : ℕ) (v : PassState J) → get_elem? views j ≡ some v → Knows journal start h j v) where
  pub had_seen_all : (id : ℕ) (v : PassState J) → get_elem? views id ≡ some v → HadSeenAll journal v h.log
  had_seen_all id v at full key is le =
      (is_alone journal start h views sums knows id v at full).seen
      (subst (λ (b : J). journal.length_of b ≤ length v.seen) ((knows id v at).start_is key is) le)
