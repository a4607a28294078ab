-- How a run of steps ends by which dead documents go.
use Rattle.std.proofs.Common.{◌≤◌, ℕ, List, [], ◌++◌, sym, subst, ◌∙◌, append-nil}
use Rattle.disk_trait.specs.declared.device.Disk.{Ghosts as Disk}
use Rattle.page_types.specs.Numbers.{page_limit}
use Rattle.buffer_frames.specs.Frames.{FramesValue, Stands}
use Rattle.buffer_frames.specs.Passes.{GoesOnBy, HasAdded}
use Rattle.buffer_frames.specs.declared.pass.Pass.{Pass}
use Rattle.buffer_frames.proofs.Begun.{same_by_none}
use Rattle.gin_place.specs.Causes.{Finds, NoBadPage}
use Rattle.gin_place.specs.Faults.{MetNoFault}
use Rattle.gin_place.specs.declared.error.PlaceError.{PlaceError}
use Rattle.gin_place.specs.declared.error.PlaceError.TheVariants.{StoreFull, LogFull, DiskFault, Down, BadPage}
use Rattle.gin_place.specs.declared.error.PlaceError.TheVariants.{OutOfMemory}
use Rattle.gin_place.proofs.Faults.{fine_then}
use Rattle.gin_vacuum.specs.Going.{VacuumsOn}
use Rattle.gin_vacuum.specs.Ending.{VacuumMeets, NeverBad}
use Rattle.gin_vacuum.proofs.InTurn.{vacuums_in_turn}
use Rattle.gin_vacuum.proofs.Logs.{reads_vacuum}

module _ {D : Type 0} (device : Disk D) where
  never_by : (f : FramesValue D) (e : PlaceError) → NoBadPage device f e → NeverBad device f e
  never_by f (BadPage n) none = λ t up numbers found R H b s. none numbers t up R s b.log_of.legal
  never_by f StoreFull none = tt
  never_by f LogFull none = tt
  never_by f (Down n) none = tt
  never_by f DiskFault none = tt
  never_by f OutOfMemory none = tt

  -- a step of a lawful store meets no bad page, after others that met no fault
  pub never_bad : (f m : FramesValue D) (p q : Pass) (ks : List ℕ) (e : PlaceError) → VacuumsOn device f p m q ks
      → MetNoFault device f m → NoBadPage device m e → NeverBad device f e
  never_bad f m p q ks (BadPage n) through met none = λ t up numbers found R H b s.
      let on = through.begins t found R H b in
      never_by m (BadPage n) none t (met.down ∙ up)
      (subst (λ (x : ℕ). x ≤ page_limit) (sym through.state.pages) numbers) found on.0 on.1 on.4 (on.5 s)
  never_bad f m p q ks StoreFull through met none = tt
  never_bad f m p q ks LogFull through met none = tt
  never_bad f m p q ks (Down n) through met none = tt
  never_bad f m p q ks DiskFault through met none = tt
  never_bad f m p q ks OutOfMemory through met none = tt

  -- what a step found, after others, and what it left
  pub meets_by : (f m left : FramesValue D) (p q : Pass) (ks : List ℕ)
      (X : FramesValue D → Pass → Type 0) → VacuumsOn device f p m q ks → MetNoFault device f m
      → HasAdded device m left [] → Finds device m q X → VacuumMeets device f p left X
  meets_by f m left p q ks X through met refused (g, r, reads, fine, x) = (
    g,
    r,
    ks ++ [],
    vacuums_in_turn device f m g p q r ks [] through (reads_vacuum device m g q r reads),
    fine_then device f m g met fine,
    λ R s.
        let on = through.added.on R s in
        let there = (reads.added).on on.0 on.1 in
        let then = refused.on on.0 on.1 in (
          on.0,
          subst (λ (js : List ℕ). GoesOnBy f.journal.owes R on.0 js) (sym (append-nil ks)) on.2,
          subst (Stands device g) (same_by_none m.journal.owes on.0 there.0 there.2) there.1,
          subst (Stands device left) (same_by_none m.journal.owes on.0 then.0 then.2) then.1,
        ),
    x,
  )
