-- What a pass shows of a step on pages that it holds, and what is so once it is logged.
use Rattle.std.specs.Prelude.{◌≡◌, ◌≤◌, List, [], ◌∷◌, length, Some, ⊤, Result, Ok}
use Rattle.std.specs.declared.alloc.AllocError.{AllocError}
use Rattle.disk_trait.specs.declared.device.Disk.{Ghosts as Disk}
use Rattle.wal.specs.Waiting.{down_of}
use Rattle.page_types.specs.Records.{kind_number}
use Rattle.core_state.specs.Allowed.{Sheet, Step, MayLog, Owes}
use Rattle.buffer_frames.specs.Drawing.{HasEncoding}
use Rattle.buffer_frames.specs.Opens.{IsLoggedKind}
use Rattle.buffer_frames.specs.Frames.{FramesValue, Stands, Behind}
use Rattle.buffer_frames.specs.Passes.{IsPassOf, IsHolding, Seen, IsLogged, view_of}
use Rattle.buffer_frames.specs.declared.pass.Pass.{Pass}
use Rattle.gin_place.specs.Causes.{HasFault}
use Rattle.gin_place.specs.Placing.{HasRight}
use Rattle.gin_place.specs.declared.error.PlaceError.{PlaceError}
use Rattle.gin_place.specs.declared.error.PlaceError.TheVariants.{StoreFull, LogFull, DiskFault, Down, BadPage}
use Rattle.gin_place.specs.declared.error.PlaceError.TheVariants.{OutOfMemory}
use Rattle.gin_vacuum.specs.Going.{IsVacuumKind, VacuumsOn, HasNoRoom}

module _ {D : Type 0} (device : Disk D) (f : FramesValue D) (pass : Pass) (held : List Sheet) (step : Step) where
  -- the step may be logged by a pass with the right that holds these pages
  pub record MayLogStep : Type 0 where
    pub is_pass : IsPassOf f pass
    pub right : HasRight pass
    pub holding : IsHolding device f pass held
    pub encoded : HasEncoding step
    pub kind : IsLoggedKind step.kind
    pub vacuum : IsVacuumKind (kind_number step.kind)
    pub pages : length step.after ≤ 3
    pub may : Behind device f (λ R. MayLog (view_of f pass R held) step)
    pub owes : (R : _) → Stands device f R → Owes (view_of f pass R held) step

  -- and it is, after a log that was allowed to the pass
  pub record LogsStep (f' : FramesValue D) (pass' : Pass) : Type 0 where
    pub works : VacuumsOn device f pass f' pass' (kind_number step.kind ∷ [])
    pub all : pass'.seen ≡ f'.journal.state.records
    pub seen : Seen device f' pass' (λ S P. IsLogged (view_of f' pass S held) step S P)

module _ {D : Type 0} (device : Disk D) (f : FramesValue D) (pass : Pass) (held : List Sheet)
    (made : Result Step AllocError) where
  -- the step that was made, if any was, may be logged by a pass with the right that holds these pages
  pub record MayLogMade : Type 0 where
    pub is_pass : IsPassOf f pass
    pub right : HasRight pass
    pub holding : IsHolding device f pass held
    pub may : (step : Step) → made ≡ Ok step → MayLogStep device f pass held step

  -- a step was made, and it is logged
  pub record LogsMade (f' : FramesValue D) (pass' : Pass) : Type 0 where
    pub step : Step
    pub made_is : made ≡ Ok step
    pub logged : LogsStep device f pass held step f' pass'

module _ {D : Type 0} (device : Disk D) where
  -- why a step is not logged, by a call that leaves the frames so
  abbrev pub CannotLog : FramesValue D → PlaceError → FramesValue D → Pass → Type 0
  CannotLog left StoreFull f pass = ⊥
  CannotLog left LogFull f pass = HasNoRoom f
  CannotLog left DiskFault f pass = HasFault device f left
  CannotLog left (Down fault) f pass = down_of f.journal.wal ≡ Some fault
  CannotLog left (BadPage p) f pass = ⊥
  CannotLog left OutOfMemory f pass = ⊤
