-- How a step ends that is to shift the first page of the list.
use Rattle.std.proofs.Common.{◌≡◌, ◌<◌, ◌≤◌, ℕ, [], ◌∷◌, length, inl, Ok, Err, arith}
use Rattle.std.specs.Prelude.{slice_get, Some}
use Rattle.disk_trait.specs.declared.device.Disk.{Ghosts as Disk}
use Rattle.page_types.specs.Views.{rows_of}
use Rattle.core_state.specs.Allowed.{Step}
use Rattle.buffer_frames.specs.Frames.{FramesValue}
use Rattle.buffer_frames.specs.LogCauses.{IsCalm}
use Rattle.buffer_frames.specs.Passes.{IsPassOf}
use Rattle.buffer_frames.specs.declared.pass.Pass.{Pass}
use Rattle.gin_place.specs.Causes.{Finds}
use Rattle.gin_place.specs.Faults.{MetNoFault, FaultBy}
use Rattle.gin_place.specs.Holding.{ReadsOn}
use Rattle.gin_place.specs.Placing.{HasRight}
use Rattle.gin_place.specs.declared.error.PlaceError.{PlaceError}
use Rattle.gin_place.proofs.Carrying.{reads_in_turn, right_on}
use Rattle.gin_place.proofs.Faults.{calm_fine, fine_then, told_then}
use Rattle.gin_cleanup.specs.Cleaning.{IsCleaning}
use Rattle.gin_cleanup.specs.Going.{IsRowPage, IsBadList, IsCause}
use Rattle.gin_cleanup.specs.Inner.Shifting.{IsShiftStep, HasNoFate, HoldsFirst, MayShift, LogsShift, HasTurnedAgain}
use Rattle.gin_cleanup.specs.Inner.Shifting.{HasGone}
use Rattle.gin_cleanup.specs.Inner.Stepping.{StepEnds}
use Rattle.gin_cleanup.specs.declared.cleanup.Cleanup.{Cleanup}
use Rattle.gin_cleanup.specs.declared.cleanup.Stage.TheVariants as stage
use Rattle.gin_cleanup.specs.declared.first_page.First.{First}
use Rattle.gin_cleanup.proofs.Cleaned.{cleans_by, cleans_after}
use Rattle.gin_cleanup.proofs.Cleanings.{cleaning_still}
use Rattle.gin_cleanup.proofs.Nearer.{again_nearer, by_kinds}
use Rattle.gin_cleanup.proofs.Shifts.{first_batch, read_again, shifts, no_fate_cause, no_fate_told}
use Rattle.gin_cleanup.proofs.ShiftSteps.{may_shift}
use Rattle.gin_cleanup.proofs.Worked.{still, refused}

-- the first page is held, and no fault was met
module _ {D : Type 0} (device : Disk D) (f g : FramesValue D) (p q : Pass) (of : IsPassOf f p) (right : HasRight p)
    (none : p.held ≡ 0) (reads : ReadsOn device f p g q) (fine : MetNoFault device f g) (c : Cleanup)
    (at : c.stage ≡ stage.Shifting) (t : First) (holds : HoldsFirst device g q t) where
  right_then : HasRight q
  right_then = right_on device f g p q [] right reads.works

  -- the Shift may be logged
  pub may : (from : ℕ) → IsCleaning device f p from c → (noted : ℕ) → slice_get c.counts.items c.gone ≡ Some noted
      → (s : Step) → length (rows_of t.page.content) ≤ noted → IsShiftStep t.meta t.page s
      → MayShift device g q (t.page ∷ t.meta ∷ []) s
  may from was noted is s few step =
      may_shift device g q t s holds reads.works.is_pass right_then step c.left noted _
      (first_batch device g q from c at (still device f g p q of right none reads c from was) noted is) few

  module _ (h : FramesValue D) (r : Pass) where
    -- it is not logged
    pub unlogged : {T : Type 0} (e : PlaceError) → ReadsOn device g q h r → r.held ≡ 0 → IsCause device h e g q
        → FaultBy device g h e → StepEnds {T = T} device f p h r c c (Err e)
    unlogged e on free cause fault =
        refused device f h p r of right none (reads_in_turn device f g h p q r reads on) c e free
        (g, q, reads.works, fine, cause) (told_then device f g h e fine fault)

    -- it is logged, and the first page is gone
    pub shifted : {T : Type 0} {x : T} (was : (from : ℕ) × IsCleaning device f p from c) (noted : ℕ)
        → slice_get c.counts.items c.gone ≡ Some noted → (s : Step) → length (rows_of t.page.content) ≤ noted
        → IsShiftStep t.meta t.page s → LogsShift device g q (t.page ∷ t.meta ∷ []) s h r → r.held ≡ 0
        → MetNoFault device g h → 0 < c.left → (new : Cleanup) (link : ℕ) → link ≡ t.page.content.right
        → HasGone link c new → StepEnds device f p h r c new (Ok x)
    shifted was noted is s few step logs free met some new link same gone =
        let cleans = cleans_after device f g h p q r (12 ∷ []) reads.works logs.cleans in
        record {
          cleaning = λ from had.
              shifts device g q from c at (still device f g p q of right none reads c from had) h r t holds s
              (may was.0 was.1 noted is s few step) logs step some noted is new link same gone;
          none_held = free;
          works = (12 ∷ [], omega arith, cleans);
          refused = tt;
          lower = inl cleans.goes.records;
          cause = tt;
          fine = fine_then device f g h fine met;
          fault = tt;
        }

    -- both pages are given back
    module _ (back : ReadsOn device g q h r) (free : r.held ≡ 0) (calm : IsCalm device g.journal h.journal) where
      on : ReadsOn device f p h r
      on = reads_in_turn device f g h p q r reads back

      met : MetNoFault device f h
      met = fine_then device f g h fine (calm_fine device g h calm)

      -- the list is read again
      pub again : {T : Type 0} {x : T} → 0 < c.turns → (new : Cleanup) (page : ℕ) → page ≡ t.page.page
          → HasTurnedAgain page c new → StepEnds device f p h r c new (Ok x)
      again some new page is turned = record {
        cleaning = λ from was.
            cleaning_still device g h q r (t.page ∷ t.meta ∷ []) holds.holding reads.works.is_pass right_then back from
            new (read_again device g q from c at (still device f g p q of right none reads c from was) t holds new page
            is turned);
        none_held = free;
        works = ([], omega arith, cleans_by device f h p r [] on.works);
        refused = tt;
        lower = by_kinds f h c new [] on.works.goes.records (again_nearer page c new some turned);
        cause = tt;
        fine = met;
        fault = tt;
      }

      -- the first page has no fate
      pub unshifted : {T : Type 0} (e : PlaceError) → HasNoFate t.page e
          → ((IsRowPage t.page.content → ⊥) → Finds device f p (λ k s. IsBadList device k s t.page.page))
          → StepEnds {T = T} device f p h r c c (Err e)
      unshifted e why bad =
          refused device f h p r of right none on c e free (no_fate_cause device f h p t.page e of why bad)
          (no_fate_told device f h t.page e why met)
