-- A step of one pass leaves the other what it was.
use Rattle.std.proofs.Common.{◌≡◌, ◌≢◌, ◌≤◌, ◌<◌, ◌∙◌, ℕ, zero, suc, List, max, refl}
use Rattle.std.proofs.Common.{sym, ap, subst, inl, inr, arith}
use Rattle.std.proofs.lemmas.List.{get_or-set_same, get_or-set_other, length-set}
use Rattle.std.proofs.lemmas.Option.{slice_get_within, get_or_from_slice_get, slice_get-get_or}
use Rattle.std.specs.Prelude.{Option, Some, None, Bool, IfSome, slice_set}
use Rattle.disk_trait.specs.declared.device.Disk.{Ghosts as Disk}
use Rattle.ts_base.specs.Keys.{Key}
use Rattle.core_state.specs.Log.{Log, Pages}
use Rattle.core_state.specs.Index.{Pending, Main}
use Rattle.snap_pins.specs.Taken.{IsPinned, IsFree}
use Rattle.snap_pins.specs.declared.Pin.{Pin}
use Rattle.buffer_frames.specs.Frames.{FramesValue, KeepsState}
use Rattle.buffer_frames.specs.Passes.{IsPassOf, IsRightOf, Seen, in_use}
use Rattle.buffer_frames.specs.declared.pass.Pass.{Pass}
use Rattle.buffer_frames.specs.declared.pass.Pinned.{Pinned}
use Rattle.gin_scan.specs.Calls.{AddsNothing}
use Rattle.gin_scan.specs.Calls.AddsNothing.{stays, then}
use Rattle.gin_place.specs.Placing.{IsAt as IsPlacedAt, AreLeft as AreStepsLeft, HasRoomAbove, IsPlacing}
use Rattle.gin_place.specs.Trees.{HasRoomIn, GoesDown, Leads, IsHighIn}
use Rattle.gin_place.specs.declared.placing.Placing.{Placing}
use Rattle.gin_place.specs.declared.placing.Stage.{Stage as PlacingStage}
use Rattle.gin_place.specs.declared.placing.Stage.TheVariants as placing
use Rattle.gin_cleanup.specs.Cleaning.{IsAt as IsCleanedAt, AreLeft, IsCleaning, IsKeyAt}
use Rattle.gin_cleanup.specs.declared.cleanup.Cleanup.{Cleanup}
use Rattle.gin_cleanup.specs.declared.cleanup.Stage.{Stage as CleanupStage}
use Rattle.gin_cleanup.specs.declared.cleanup.Stage.TheVariants as cleaning
use Rattle.gin_vacuum.specs.Sweeping.{IsSweeping}
use Rattle.gin_vacuum.specs.Freeing.{IsFreeing}
use Rattle.gin_vacuum.specs.declared.sweeping.Sweeping.{Sweeping}
use Rattle.gin_vacuum.specs.declared.freeing.Freeing.{Freeing}
use Rattle.index_cases.specs.Turns.{IsAt}
use Rattle.index_cases.specs.declared.upkeep.Stage.{Stage}
use Rattle.index_cases.specs.declared.upkeep.Stage.TheVariants as stage

-- ── a pass without a transaction and without the right stays one where others log ──

pub pass_on : {D : Type 0} (f g : FramesValue D) (p : Pass) → IsPassOf f p → p.xid ≡ None → p.work ≡ None
    → g.pins ≡ f.pins → f.journal.flushed ≤ g.journal.flushed → f.journal.state.records ≤ g.journal.state.records
    → IsPassOf g p
pass_on f g p was xid work pins flushed longer = record {
  some = was.some;
  seen = omega (arith, was.seen, longer);
  all = subst (λ (o : Option ℕ). IfSome o (λ x. p.seen ≡ g.journal.state.records)) (sym xid) tt;
  none_owed = λ owes. xid;
  shown = omega (arith, was.shown, flushed);
  pin = subst (λ (l : List (Option Pin)). IfSome p.pin
      (λ s. IsPinned l s.place (in_use s) × (s.length ≤ p.seen))) (sym pins) was.pin;
  free = subst (λ (l : List (Option Pin)). p.pin ≡ None → (place : ℕ) × IsFree l place) (sym pins) was.free;
  few = was.few;
  now = (omega (arith, was.now.0, flushed), omega (arith, was.now.1, longer));
  below = subst (λ (l : List (Option Pin)). (place : ℕ) (q : Pin) → IsPinned l place q
      → (p.floor ≤ q.commits) × (p.since ≤ q.length)) (sym pins) was.below;
  work = subst (λ (o : Option ℕ). IfSome o
      (λ at. (at ≤ g.journal.state.records) × IsRightOf g.journal.work (max at p.seen))) (sym work) tt;
}

-- ── calls that log nothing ──

module _ {D : Type 0} (device : Disk D) where
  pub state_still : {f g : FramesValue D} → AddsNothing device f g → KeepsState f g
  state_still stays = record { state = refl; owes = refl; work = refl }
  state_still (then adds once) =
      let had = state_still adds in
      record {
        state = once.state.state ∙ had.state;
        owes = once.state.owes ∙ had.owes;
        work = once.state.work ∙ had.work;
      }

  pub flushed_on : {f g : FramesValue D} → AddsNothing device f g → f.journal.flushed ≤ g.journal.flushed
  flushed_on stays = omega arith
  flushed_on (then adds once) = omega (arith, flushed_on adds, once.runs_on.flushed)

  -- no snapshot that is taken is older than what a pass has
  pub below_on : {f g : FramesValue D} (floor since : ℕ) → AddsNothing device f g → floor ≤ f.journal.flushed
      → since ≤ f.journal.state.records
      → ((place : ℕ) (q : Pin) → IsPinned f.pins place q → (floor ≤ q.commits) × (since ≤ q.length))
      → (place : ℕ) (q : Pin) → IsPinned g.pins place q → (floor ≤ q.commits) × (since ≤ q.length)
  below_on floor since stays low short had place q pinned = had place q pinned
  below_on floor since (then {mid} {new} adds once) low short had place q pinned =
      elim (once.pins place q pinned) [
        | inl old ↦ below_on floor since adds low short had place q old
        | inr rises ↦ (
          omega (arith, low, flushed_on adds, rises.0),
          omega (arith, short, ap (λ s. s.records) (state_still adds).state, rises.1),
        )
      ]

  -- a pass without a snapshot or a transaction stays one, while a place for its snapshot is left
  pub other_still : {f g : FramesValue D} (p : Pass) → AddsNothing device f g → IsPassOf f p → p.pin ≡ None
      → p.xid ≡ None → (place : ℕ) × IsFree g.pins place → IsPassOf g p
  other_still {f} {g} p adds was pin xid free =
      let same = state_still adds in
      let count : g.journal.state.records ≡ f.journal.state.records = ap (λ s. s.records) same.state in
      let flushed = flushed_on adds in
      record {
        some = was.some;
        seen = omega (arith, was.seen, count);
        all = subst (λ (o : Option ℕ). IfSome o (λ x. p.seen ≡ g.journal.state.records)) (sym xid) tt;
        none_owed = λ owes. xid;
        shown = omega (arith, was.shown, flushed);
        pin = subst (λ (o : Option Pinned). IfSome o
            (λ s. IsPinned g.pins s.place (in_use s) × (s.length ≤ p.seen))) (sym pin) tt;
        free = λ none. free;
        few = was.few;
        now = (omega (arith, was.now.0, flushed), omega (arith, was.now.1, count));
        below = below_on p.floor p.since adds was.now.0 was.now.1 was.below;
        work = subst (λ (w : Option ℕ). IfSome p.work
            (λ at. (at ≤ g.journal.state.records) × IsRightOf w (max at p.seen))) (sym same.work)
            (subst (λ (n : ℕ). IfSome p.work
            (λ at. (at ≤ n) × IsRightOf f.journal.work (max at p.seen))) (sym count) was.work);
      }

  -- ── a task stays where it was, where nothing is to be shown of logs ──

  module _ (silent : device.tells → ⊥) (f g : FramesValue D) (p : Pass) where
    unsaid : (X : Log → Pages → Type 0) → Seen device g p X
    unsaid X = λ told. absurd (silent told)

    placed_still : (k : Key) (items : List ℕ) (from : ℕ) (s : PlacingStage) → IsPlacedAt device f p k items from s
        → IsPlacedAt device g p k items from s
    placed_still k items from (placing.At s parent page) is = (is.0, unsaid (λ S P. Leads P k s page))
    placed_still k items from placing.Done placed = λ i on. unsaid (λ S P. Main P k i)

    left_still : (k : Key) (s : PlacingStage) (o : Option ℕ) → AreStepsLeft device f p k s o
        → AreStepsLeft device g p k s o
    left_still k (placing.At s parent page) None is = is
    left_still k (placing.At s parent page) (Some n) had =
        unsaid (λ S P. Leads P k s page × (h : ℕ) × IsHighIn P s h page × (h < n))
    left_still k placing.Done o is = tt

    above_still : (k : Key) (making : Bool) (s : PlacingStage) → HasRoomAbove device f p k making s
        → HasRoomAbove device g p k making s
    above_still k making (placing.At s parent page) had = λ is other.
        unsaid (λ S P. Leads P k s parent × GoesDown k s (P parent) page × HasRoomIn s (P parent))
    above_still k making placing.Done had = tt

    placing_still : (k : Key) (items : List ℕ) (s : Placing) → IsPlacing device f p k items s
        → IsPlacing device g p k items s
    placing_still k items s is = (
      placed_still k items s.from s.stage is.0,
      left_still k s.stage s.left is.1,
      above_still k s.making_room s.stage is.2,
      (is.3.0, λ i on. unsaid (λ S P. Main P k i)),
    )

    key_still : (s : CleanupStage) → IsKeyAt device f p s → IsKeyAt device g p s
    key_still (cleaning.Reading page before) is = tt
    key_still (cleaning.Placing key items s) is = (is.0, is.1, placing_still key.items items.items s is.2)
    key_still cleaning.Shifting is = tt

    cleaning_still : (from : ℕ) (c : Cleanup) → IsCleaning device f p from c → IsCleaning device g p from c
    cleaning_still from c is = record {
      began = is.began;
      at = unsaid (λ S P. IsCleanedAt P c c.stage);
      gone = is.gone;
      linked = λ x on. unsaid (λ S P. Pending P x.key x.item);
      pairs = is.pairs;
      placing = key_still c.stage is.placing;
      left = unsaid (λ S P. AreLeft from S P c.left);
    }

    sweeping_still : (dead : List ℕ) (s : Sweeping) → IsSweeping device f p dead s → IsSweeping device g p dead s
    sweeping_still dead s is = record {
      leave = λ told. absurd (silent told);
      at = λ told. absurd (silent told);
      high = is.high;
    }

    freeing_still : (from : ℕ) (dead : List ℕ) (c : Freeing) → IsFreeing device f p from dead c
        → IsFreeing device g p from dead c
    freeing_still from dead c is = record {
      began_at = is.began_at;
      within = is.within;
      out = λ told. absurd (silent told);
      freed = λ told. absurd (silent told);
    }

    pub at_still : (dead : List ℕ) (s : Stage) → IsAt device f p dead s → IsAt device g p dead s
    at_still dead (stage.Deleting name) is = tt
    at_still dead stage.Seeking is = tt
    at_still dead (stage.Cleaning c) is = (is.0, cleaning_still is.0 c is.1)
    at_still dead (stage.Sweeping s) is = sweeping_still dead s is
    at_still dead (stage.Freeing c) is = (is.0, freeing_still is.0 dead c is.1)
    at_still dead stage.Done is = tt

-- ── places for snapshots ──

pub other_free : (xs : List (Option Pin)) (i j : ℕ) (v : Option Pin) → j ≢ i → IsFree xs j
    → IsFree (slice_set xs i v) j
other_free xs i j v other free =
    slice_get-get_or (slice_set xs i v) j None
    (subst (λ (n : ℕ). j < n) (sym (length-set xs i v)) (slice_get_within xs j None free))
    ∙ ap Some (get_or-set_other xs i j v None other ∙ get_or_from_slice_get xs j None None free)

-- a place is free, once its snapshot is given up
pub set_free : (xs : List (Option Pin)) (i : ℕ) (pin : Pin) → IsPinned xs i pin → IsFree (slice_set xs i None) i
set_free xs i pin is =
    let within = slice_get_within xs i (Some pin) is in
    slice_get-get_or (slice_set xs i None) i None
    (subst (λ (n : ℕ). i < n) (sym (length-set xs i None)) within) ∙ ap Some (get_or-set_same xs i None None within)

-- one is left of two
pub one_free : (xs : List (Option Pin)) (i : ℕ) (v : Option Pin) → IsFree xs 0 → IsFree xs 1
    → (place : ℕ) × IsFree (slice_set xs i v) place
one_free xs zero v free one = (1, other_free xs 0 1 v (λ e. omega (arith, e)) one)
one_free xs (suc i) v free one = (0, other_free xs (suc i) 0 v (λ e. omega (arith, e)) free)
