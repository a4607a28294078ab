-- How a whole sweep begins and ends.
use Rattle.std.proofs.Common.{◌≡◌, ◌∙◌, ℕ, List, [], ◌++◌, refl, sym, subst, arith, Ok, Err, Bool, true, false}
use Rattle.std.specs.Prelude.{◌↔◌, Result, Option, Some, None, IfSome, IfNone}
use Rattle.std.specs.List.{AllByRecursion}
use Rattle.std.specs.Option.{is_some}
use Rattle.disk_trait.specs.declared.device.Disk.{Ghosts as Disk}
use Rattle.core_state.specs.TreeRules.{Toward}
use Rattle.buffer_frames.specs.Frames.{FramesValue}
use Rattle.buffer_frames.specs.Passes.{IsPassOf}
use Rattle.buffer_frames.specs.declared.pass.Pass.{Pass}
use Rattle.gin_place.specs.Faults.{MetNoFault}
use Rattle.gin_place.specs.declared.error.PlaceError.{PlaceError}
use Rattle.gin_place.proofs.Causing.{finds_as}
use Rattle.gin_place.proofs.Carrying.{reads_still, same_added}
use Rattle.gin_place.proofs.Faults.{fine_still}
use Rattle.gin_vacuum.specs.Vacuum.{AreDead, AreSwept}
use Rattle.gin_vacuum.specs.Going.{VacuumsOn}
use Rattle.gin_vacuum.specs.Ending.{VacuumMeets, NeverBad}
use Rattle.gin_vacuum.specs.Sweeping.{AreLeftDown, IsAt, HasHigh, IsSweeping}
use Rattle.gin_vacuum.specs.Stepping.{IsSweepKind, HasSwept, IsCause, IsBad, IsBadIn}
use Rattle.gin_vacuum.specs.Inner.Sweeping.{begun}
use Rattle.gin_vacuum.specs.declared.sweeping.Sweeping.{Sweeping}
use Rattle.gin_vacuum.specs.declared.sweeping.Stage.TheVariants as stage
use Rattle.gin_vacuum.proofs.Endings.{never_bad, meets_by}
use Rattle.gin_vacuum.proofs.InTurn.{all_then, vacuums_in_turn}
use Rattle.gin_vacuum.proofs.Logs.{reads_vacuum}
use Rattle.gin_vacuum.proofs.SweepCauses.{cause_as}

-- the records of steps one after another
abbrev pub Swept : {D : Type 0} → Disk D → FramesValue D → Pass → FramesValue D → Pass → Type 0
Swept device f p g q = (kinds : List ℕ) × AllByRecursion IsSweepKind kinds × VacuumsOn device f p g q kinds

-- whether there is one says whether it is the end
pub ends_none : {A : Type 0} (o : Option A) (b : Bool) (End : Type 0) → b ≡ is_some o → IfSome o (λ x. End → ⊥)
    → IfNone o End → (b ≡ false) ↔ End
ends_none None b End is some none = (λ e. none, λ e. is)
ends_none (Some x) b End is some none = (
  λ e. absurd (let two : true ≡ false = sym is ∙ e in let z : ⊥ = cc in z),
  λ e. absurd (some e),
)

module _ {D : Type 0} (device : Disk D) where
  -- nothing is read yet
  pub sweep_begins : (f : FramesValue D) (p : Pass) (dead : List ℕ) (s : Sweeping) → begun s → AreDead device f p dead
      → IsSweeping device f p dead s
  sweep_begins f p dead s b leave = record {
    leave = leave;
    at = λ t up R stands legal P shown.
        subst (IsAt P dead s) (sym b.0)
        (Toward.here, subst (AreLeftDown P _ _ 1 1) (sym b.3) refl);
    high = subst HasHigh (sym b.0) tt;
  }

  pub nothing_done : (f : FramesValue D) (p : Pass) → IsPassOf f p → VacuumsOn device f p f p []
  nothing_done f p of =
      reads_vacuum device f f p p (reads_still device f p of (same_added device f)).works

  -- a step at the end does nothing
  pub swept_done : (f : FramesValue D) (p : Pass) (dead : List ℕ) (s : Sweeping) (b : Bool) → IsPassOf f p
      → p.held ≡ 0 → IsSweeping device f p dead s → HasSwept {T = Bool} device f p f p dead s s (Ok b)
  swept_done f p dead s b of none sw = record {
    sweeping = sw;
    none_held = none;
    works = ([], omega arith, tt, nothing_done f p of);
    refused = tt;
    unmoved = tt;
    cause = tt;
    lawful = tt;
    fine = fine_still device f;
    fault = tt;
  }

  module _ (f m g : FramesValue D) (p q r : Pass) (dead : List ℕ) (before : Swept device f p m q)
      (fine : MetNoFault device f m) (old new : Sweeping) where
    pub swept_more : {T : Type 0} (result : Result T PlaceError)
        → HasSwept device m q g r dead old new result → Swept device f p g r
    swept_more result e = (
      before.0 ++ e.works.0,
      all_then IsSweepKind before.0 e.works.0 before.1 e.works.2,
      vacuums_in_turn device f m g p q r before.0 e.works.0 before.2 e.works.3,
    )

    pub sweep_cause : {T : Type 0} (e : PlaceError) → HasSwept {T = T} device m q g r dead old new (Err e)
        → VacuumMeets device f p g (IsCause device (IsBadIn device) g e)
    sweep_cause e s =
        meets_by device f m g p q before.0 (IsCause device (IsBadIn device) g e) before.2 fine
        s.refused.added
        (finds_as device m q (IsCause device (IsBad device old) g e) (IsCause device (IsBadIn device) g e)
        (λ h x c. cause_as device (IsBad device old) (IsBadIn device) g e h x (λ n bad. (old, bad)) c) s.cause)

    pub sweep_lawful : {T : Type 0} (e : PlaceError) → HasSwept {T = T} device m q g r dead old new (Err e)
        → NeverBad device f e
    sweep_lawful e s = never_bad device f m p q before.0 e before.2 fine s.lawful

  -- at the end no dead item is left
  pub sweep_ends : (g : FramesValue D) (r : Pass) (dead : List ℕ) (s : Sweeping) → s.stage ≡ stage.Done
      → IsSweeping device g r dead s → AreSwept device g r dead
  sweep_ends g r dead s done sw t up R stands legal P shown =
      subst (IsAt P dead s) done (sw.at t up R stands legal P shown)
