-- The journal of the bench may be given back, with a record more or without.
use Rattle.std.proofs.Common.{◌≡◌, ℕ, suc, List, [], ◌∷◌, length, refl, sym, ap, ◌∙◌, arith}
use Rattle.std.specs.Prelude.{Some, None}
use Rattle.latch_table.specs.declared.states.Note.{Note}
use Rattle.latch_table.specs.declared.states.PassState.{PassState}
use Rattle.latch_table.specs.Told.{HasClaimedJournal}
use Rattle.latch_table.specs.Giving.{AreBounds, HasGivenJournal, CanGive, unchanged}
use Rattle.latch_table.specs.Giving.{notes_after}
use Rattle.latch_table.proofs.Appends.{may_give, may_look}
use Rattle.latch_bench.specs.declared.slots.Tally.{Tally}
use Rattle.latch_bench.specs.Slots.{tally}
use Rattle.latch_bench.specs.Adding.{next, added_to}
use Rattle.latch_bench.specs.Hands.{HoldsAlike}

-- nothing is flushed and there is no pin
are_bounds : (v : PassState Tally) (b : Tally) → AreBounds tally v b (record { floor = 0; since = b.count; clock = 0 })
are_bounds v b = record {
  flushed = omega arith;
  within = omega arith;
  pins = λ k p is. cc is;
  most = λ n m le le' all. (le, le');
  reached = λ l. tt;
}

-- with a record more
pub can_add : (slots : ℕ) (old v : PassState Tally) (b b' : Tally) → HasClaimedJournal tally b old v
    → b'.count ≡ suc b.count
    → CanGive tally slots v b' (added_to v)
can_add slots old v b b' h more =
    let long : b.count ≡ length v.seen = h.length_is ∙ sym (ap (λ (w : PassState Tally). length w.seen) h.state) in (
      b,
      ap (λ (w : PassState Tally). w.journal) h.state,
      may_give tally slots old v b b' (next v) (record { floor = 0; since = b'.count; clock = 0 }) h
          (record {
            stands = tt;
            length_is = more ∙ ap suc long;
            made = λ l. absurd l.2;
            counted = refl;
            flushed = refl;
            faults = omega arith;
            write_faults = omega arith;
            owes = λ e. cc e;
            begins = λ e. refl;
            places = λ i. refl;
            pins = λ k. refl;
            reached = λ l clock n t. tt;
            redo = λ l n written synced t. tt;
            walks = λ l n bound passed t. tt;
          })
          (λ l. absurd l.2) (are_bounds v b'),
    )

-- as it was
pub can_look : (slots : ℕ) (old v : PassState Tally) (b : Tally) → HasClaimedJournal tally b old v
    → CanGive tally slots v b (unchanged v)
can_look slots old v b h = (
  b,
  ap (λ (w : PassState Tally). w.journal) h.state,
  may_look tally slots old v b (record { floor = 0; since = b.count; clock = 0 }) h (are_bounds v b),
)

-- a record that changes no page leaves the notes as they are
none_changed : (v : PassState Tally) (fs : List Note) → notes_after (Some (next v)) None fs ≡ fs
none_changed v [] = refl
none_changed v (f ∷ fs) = ap (λ (gs : List Note). f ∷ gs) (none_changed v fs)

none_swapped : (fs : List Note) → notes_after None None fs ≡ fs
none_swapped [] = refl
none_swapped (f ∷ fs) = ap (λ (gs : List Note). f ∷ gs) (none_swapped fs)

-- what the pass holds is as it was before it claimed the journal
pub alike_added : (old v new : PassState Tally) (b b' : Tally) → HasClaimedJournal tally b old v
    → HasGivenJournal tally b b' (added_to v) v new → HoldsAlike old new
alike_added old v new b b' h g = record {
  frames = ap (λ (w : PassState Tally). w.frames) g.state ∙ none_changed v v.frames
      ∙ ap (λ (w : PassState Tally). w.frames) h.state;
  journal_is = ap (λ (w : PassState Tally). w.journal) g.state;
  work = ap (λ (w : PassState Tally). w.work) g.state ∙ ap (λ (w : PassState Tally). w.work) h.state;
  pin = ap (λ (w : PassState Tally). w.pin) g.state ∙ ap (λ (w : PassState Tally). w.pin) h.state;
  room = ap (λ (w : PassState Tally). w.room) g.state ∙ ap (λ (w : PassState Tally). w.room) h.state;
}

pub alike_looked : (old v new : PassState Tally) (b b' : Tally) → HasClaimedJournal tally b old v
    → HasGivenJournal tally b b' (unchanged v) v new → HoldsAlike old new
alike_looked old v new b b' h g = record {
  frames = ap (λ (w : PassState Tally). w.frames) g.state ∙ none_swapped v.frames
      ∙ ap (λ (w : PassState Tally). w.frames) h.state;
  journal_is = ap (λ (w : PassState Tally). w.journal) g.state;
  work = ap (λ (w : PassState Tally). w.work) g.state ∙ ap (λ (w : PassState Tally). w.work) h.state;
  pin = ap (λ (w : PassState Tally). w.pin) g.state ∙ ap (λ (w : PassState Tally). w.pin) h.state;
  room = ap (λ (w : PassState Tally). w.room) g.state ∙ ap (λ (w : PassState Tally). w.room) h.state;
}
