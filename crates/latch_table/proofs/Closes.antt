-- A table that its last pass closes has each value at home, and its journal has all that was logged.
use Rattle.std.proofs.Common.{◌≡◌, ◌≢◌, ℕ, zero, suc, ◌+◌, ◌<◌, List, [], ◌∷◌, length, refl, sym, ap, subst, ◌∙◌, arith}
use Rattle.std.proofs.Common.{Bool, false, get_or, set}
use Rattle.std.specs.Prelude.{Option, Some, None}
use mathlib.Core.Logic.{dite}
use mathlib.Core.Option.{some}
use native.Mathlib.Decide.{ℕ_discrete}
use lib.ListN.{get_elem?}
use Rattle.atomic_table.specs.Table.{State, Final, Seen}
use Rattle.core_state.specs.Log.{In}
use Rattle.core_state.specs.Legal.{Pin}
use Rattle.latch_table.specs.declared.slots.Framed.{Ghosts as Framed}
use Rattle.latch_table.specs.declared.slots.Journaled.{Ghosts as Journaled}
use Rattle.latch_table.specs.declared.slots.Slot.{Slot}
use Rattle.latch_table.specs.declared.slots.Slot.TheVariants.{Frame, Journal, Away}
use Rattle.latch_table.specs.declared.states.PassState.{PassState}
use Rattle.latch_table.specs.Passes.{IsIdle}
use Rattle.latch_table.specs.Shapes.{Shape}
use Rattle.latch_table.specs.Lines.{IsNoted, IsSpent, Knows}
use Rattle.latch_table.specs.Rule.{Kept}
use Rattle.latch_table.specs.Closing.{IsAllSince, HasClosed}
use Rattle.latch_table.proofs.Told.{lawful_here}
use Rattle.latch_table.proofs.Stay.{spent_others}
use Rattle.latch_table.proofs.Alone.{is_alone}

-- a place that is set to false has it, and so have those that had it
pub set_false : (fs : List Bool) (i k : ℕ) → (k ≢ i → get_or fs k false ≡ false)
    → get_or (set fs i false) k false ≡ false
set_false [] i k f = refl
set_false (x ∷ fs) zero zero f = refl
set_false (x ∷ fs) zero (suc k) f = f (λ e. omega arith)
set_false (x ∷ fs) (suc i) zero f = f (λ e. omega arith)
set_false (x ∷ fs) (suc i) (suc k) f =
    set_false fs i k (λ ne. f (λ e. ne (let z : k ≡ i = omega arith in z)))

module _ {J : Type 0} where
  none_noted : (h : Shape J) (w : PassState J) (i : ℕ) → w.frames ≡ [] → w.journal ≡ None → w.work ≡ None
      → IsNoted h w i → ⊥
  none_noted h w i a b c (IsNoted.as_frame f in_) = subst (In f) a in_
  none_noted h w i a b c (IsNoted.as_journal x e) = let z : Some x ≡ None = sym e ∙ b in cc z
  none_noted h w i a b c (IsNoted.as_work x e) = let z : Some x ≡ None = sym e ∙ c in cc z

module _ {F J : Type 0} (frame : Framed F) (journal : Journaled J) (start : J) where
  abbrev St : Type 0
  St = State (Slot F J) (PassState J)

  abbrev Rule : St → Type 0
  Rule = Kept frame journal start

  -- what the slots have, and the journal
  pub record Ends (slots : List (Slot F J)) (v : PassState J) : Type 0 where
    pub frames : (i : ℕ) → i + 2 < length slots → (f : F) × (get_elem? slots i ≡ some (Frame f))
    pub journal_is : (b : J) × (i : ℕ) × (i + 2 ≡ length slots) × (get_elem? slots i ≡ some (Journal b))
        × HasClosed journal b v
    pub last : (i : ℕ) → i + 1 ≡ length slots → get_elem? slots i ≡ some Away

  module _ (s : St) (k : Rule s) (id : ℕ) (v : PassState J) (at : get_elem? s.views id ≡ some v)
      (full : v.room ≡ 16) (idle : IsIdle v) where
    abbrev h : Shape J
    h = k.shape

    mine : Knows journal start h id v
    mine = k.knows id v at

    others : (j : ℕ) (w : PassState J) → j ≢ id → get_elem? s.views j ≡ some w → IsSpent w
    others j w other there = spent_others journal start h s.views k.sums k.knows id v at full j w other there

    alone : IsAllSince journal start h.journal v h.log
    alone = is_alone journal start h s.views k.sums k.knows id v at full

    the_same : (j : ℕ) (w : PassState J) → j ≡ id → get_elem? s.views j ≡ some w → w ≡ v
    the_same j w same there = let z : some w ≡ some v = sym there ∙ ap (get_elem? s.views) same ∙ at in cc z

    -- nobody holds a word
    free : (i : ℕ) → i < h.frames + 2 → h.holder i ≡ 0
    free i lt = go (h.holder i) refl
      where
        go : (n : ℕ) → h.holder i ≡ n → h.holder i ≡ 0
        go zero e = e
        go (suc j) e =
            let o = k.noted i j lt e in
            absurd (dite (ℕ_discrete j id)
            (λ same.
            let q = the_same j o.0 same o.1 in
            none_noted h v i idle.frames idle.journal_is idle.work (subst (λ (y : PassState J). IsNoted h y i) q o.2))
            (λ other.
            let t = others j o.0 other o.1 in
            none_noted h o.0 i t.frames t.journal_is t.work o.2))

    -- nor has a pin
    no_pins : (n : ℕ) → journal.pins h.journal n ≡ None
    no_pins n = go (journal.pins h.journal n) refl
      where
        go : (o : Option Pin) → journal.pins h.journal n ≡ o → journal.pins h.journal n ≡ None
        go None e = e
        go (Some p) e =
            let o = k.pinned.of_views n p e in
            absurd (dite (ℕ_discrete o.0 id)
            (λ same.
            let q = the_same o.0 o.1 same o.4 in
            let none : Some o.2 ≡ None = sym o.5 ∙ ap (λ (y : PassState J). y.pin) q ∙ idle.pin in cc none)
            (λ other.
            let t = others o.0 o.1 other o.4 in
            let none : Some o.2 ≡ None = sym o.5 ∙ t.pin in cc none))

    closed : HasClosed journal h.journal v
    closed =
        let lawful = lawful_here journal start h id v mine in
        record {
          log = h.log;
          clock = k.store.reached.0;
          stands = k.store.stands;
          length_is = k.store.length_is;
          goes_on = (mine.seen.later, mine.seen.goes_on);
          within = k.store.counted;
          shown = mine.seen.shown;
          counted = mine.seen.counted;
          pins = no_pins;
          owed = mine.owed;
          all = λ key e. subst (λ (b : J). IsAllSince journal b h.journal v h.log) (sym (mine.start_is key e)) alone;
          legal = λ l. k.store.legal (lawful l);
          flushed = λ l. k.store.flushed (lawful l);
          reached = λ l. k.store.reached.1 (lawful l);
          shows = λ l. mine.shown (lawful l);
        }

  pub ends : (id : ℕ) (v : PassState J) (words : List ℕ) (slots : List (Slot F J)) → IsIdle v → v.room ≡ 16
      → Final (Seen Rule id v) words slots → Ends slots v
  ends id v words slots idle full fin =
      let s = fin.0 in
      let k = fin.1.0 in
      let at = fin.1.1 in
      let deep = k.words.deep in
      let long = fin.3 in
      let none = free s k id v at full idle in
      record {
        frames = λ i lt.
            let home = k.homes.frames i (omega arith) (none i (omega arith)) in
            (home.0, fin.4 i (Frame home.0) home.1);
        journal_is = (
          k.shape.journal,
          k.shape.frames,
          omega arith,
          fin.4 k.shape.frames (Journal k.shape.journal) (k.homes.journal_is (none k.shape.frames (omega arith))),
          closed s k id v at full idle,
        );
        last = λ i e.
            let is : i ≡ suc k.shape.frames = omega arith in
            fin.4 i Away (ap (get_elem? s.homes) is ∙ k.homes.last);
      }
