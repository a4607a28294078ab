-- A pass without a pin finds a free place among sixteen: each pin is of a pass, and passes have a room of 16.
use Rattle.std.proofs.Common.{◌≡◌, ◌≢◌, ℕ, zero, suc, ◌<◌, ◌≤◌, cond, nat_lt, List, [], ◌∷◌, refl, sym, subst, inl, inr}
use Rattle.std.proofs.Common.{◌⊎◌, arith}
use Rattle.std.specs.Prelude.{Option, Some, None}
use Rattle.std.proofs.lemmas.Bool.Decides.{nat_tests}
use mathlib.Core.Option.{some, some-ne-none}
use lib.ListN.{get_elem?}
use Rattle.core_state.specs.Legal.{Pin}
use Rattle.latch_table.specs.declared.slots.Journaled.{Ghosts as Journaled}
use Rattle.latch_table.specs.declared.states.PinNote.{PinNote}
use Rattle.latch_table.specs.declared.states.PassState.{PassState}
use Rattle.latch_table.specs.Shapes.{Shape, total}
use Rattle.latch_table.specs.Lines.{ArePinned, AddUp, Knows}

-- where no view has less, none has more all together
total_le : {V : Type 0} (f g : V → ℕ) (vs : List V) → ((j : ℕ) (v : V) → get_elem? vs j ≡ some v → f v ≤ g v)
    → total f vs ≤ total g vs
total_le f g [] le = omega arith
total_le f g (x ∷ vs) le =
    let h = le zero x refl in
    let r = total_le f g vs (λ j v p. le (suc j) v p) in omega arith

-- and where one has more, so have all together
total_lt : {V : Type 0} (f g : V → ℕ) (vs : List V) (i : ℕ) (w : V) → get_elem? vs i ≡ some w → f w < g w
    → ((j : ℕ) (v : V) → get_elem? vs j ≡ some v → f v ≤ g v) → total f vs < total g vs
total_lt f g [] i w at lt le = absurd (some-ne-none w (sym at))
total_lt f g (x ∷ vs) zero w at lt le =
    let e : x ≡ w = cc at in
    let m : f x < g x = subst (λ y. f y < g y) (sym e) lt in
    let r = total_le f g vs (λ j v p. le (suc j) v p) in omega arith
total_lt f g (x ∷ vs) (suc i) w at lt le =
    let h = le zero x refl in
    let r = total_lt f g vs i w at lt (λ j v p. le (suc j) v p) in omega arith

-- 1 where the pin's place is below n
abbrev low : ℕ → Option PinNote → ℕ
low n None = 0
low n (Some q) = cond (nat_lt q.place n) 1 0

low_more : (n : ℕ) (o : Option PinNote) → low n o ≤ low (suc n) o
low_more n None = omega arith
low_more n (Some q) = grind (arith, nat_tests)

low_here : (n : ℕ) (q : PinNote) → q.place ≡ n → low n (Some q) < low (suc n) (Some q)
low_here n q e = grind (arith, nat_tests)

low_one : (n : ℕ) (o : Option PinNote) (room : ℕ) → (room ≡ 0 → o ≡ None) → low n o ≤ room
low_one n None room f = omega arith
low_one n (Some q) zero f = absurd (let z : Some q ≡ None = f refl in cc z)
low_one n (Some q) (suc room) f = grind (arith, nat_tests)

module _ {J : Type 0} (journal : Journaled J) (start : J) (h : Shape J) (views : List (PassState J))
    (pinned : ArePinned journal start h views) (sums : AddUp journal start h views)
    (knows : (j : ℕ) (v : PassState J) → get_elem? views j ≡ some v → Knows journal start h j v) where
  abbrev below : ℕ → PassState J → ℕ
  below n v = low n v.pin

  -- one of n places is free, or as many passes have a pin there
  go : (n : ℕ) → ((k : ℕ) × (k < n) × (journal.pins h.journal k ≡ None)) ⊎ (n ≤ total (below n) views)
  go zero = inr (omega arith)
  go (suc n) = elim (go n) [
    | inl t ↦ inl (t.0, omega (arith, t.1), t.2)
    | inr many ↦ here (journal.pins h.journal n) refl many
  ]
    where
      here : (o : Option Pin) → journal.pins h.journal n ≡ o → n ≤ total (below n) views
          → ((k : ℕ) × (k < suc n) × (journal.pins h.journal k ≡ None)) ⊎ (suc n ≤ total (below (suc n)) views)
      here None e many = inl (n, omega arith, e)
      here (Some p) e many =
          let t = pinned.of_views n p e in
          let more : below n t.1 < below (suc n) t.1
          = subst (λ (o : Option PinNote). low n o < low (suc n) o) (sym t.5) (low_here n t.2 t.6) in
          let all = total_lt (below n) (below (suc n)) views t.0 t.1 t.4 more (λ j v _. low_more n v.pin) in
          inr (omega arith)

  pub free_place : (id : ℕ) (v : PassState J) → get_elem? views id ≡ some v → v.room ≢ 0 → v.pin ≡ None
      → (k : ℕ) × (k < 16) × (journal.pins h.journal k ≡ None)
  free_place id v at room none = elim (go 16) [
    | inl t ↦ t
    | inr many ↦
        let mine : below 16 v < v.room = subst (λ (o : Option PinNote). low 16 o < v.room) (sym none) (omega arith) in
        let all = total_lt (below 16) (λ (w : PassState J). w.room) views id v at mine
        (λ j w there. low_one 16 w.pin w.room (λ e. ((knows j w there).spent e).pin)) in
        let sum = sums.rooms in
        absurd (omega arith)
  ]
