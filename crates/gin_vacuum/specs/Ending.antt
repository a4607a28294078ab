-- How a whole run of steps ends by which dead documents go, where a step of it is refused.
use Rattle.std.specs.Prelude.{◌≡◌, ℕ, List, None, ⊤}
use Rattle.disk_trait.specs.declared.device.Disk.{Ghosts as Disk}
use Rattle.wal.specs.Waiting.{down_of}
use Rattle.core_state.specs.Log.{Log}
use Rattle.core_state.specs.History.{History}
use Rattle.buffer_frames.specs.Beginnings.{BeginsBy}
use Rattle.buffer_frames.specs.Frames.{FramesValue, Stands}
use Rattle.buffer_frames.specs.Passes.{GoesOnBy}
use Rattle.buffer_frames.specs.declared.pass.Pass.{Pass}
use Rattle.gin_place.specs.Causes.{HasNumbers}
use Rattle.gin_place.specs.Faults.{MetNoFault}
use Rattle.gin_place.specs.declared.error.PlaceError.{PlaceError}
use Rattle.gin_place.specs.declared.error.PlaceError.TheVariants.{BadPage}
use Rattle.gin_vacuum.specs.Going.{VacuumsOn}

module _ {D : Type 0} (device : Disk D) where
  -- the log of some frames has gone on by records of these kinds to one that is the log of both others
  abbrev pub IsSameLog : FramesValue D → List ℕ → FramesValue D → FramesValue D → Type 0
  IsSameLog f kinds g left =
      (R : Log) → Stands device f R
      → (R' : Log) × GoesOnBy f.journal.owes R R' kinds × Stands device g R' × Stands device left R'

  -- Steps that met no fault, and logged records of such kinds, came to frames and a pass of which this holds. What is
  -- left has their log.
  abbrev pub VacuumMeets : FramesValue D → Pass → FramesValue D → (FramesValue D → Pass → Type 0) → Type 0
  VacuumMeets f pass left X =
      (g : FramesValue D) × (q : Pass) × (kinds : List ℕ) × VacuumsOn device f pass g q kinds × MetNoFault device f g
      × IsSameLog f kinds g left × X g q

  -- a lawful store meets no bad page
  abbrev pub NeverBad : FramesValue D → PlaceError → Type 0
  NeverBad f (BadPage p) =
      device.tells → down_of f.journal.wal ≡ None → HasNumbers f → (found : History) (R : Log) (H : History)
      → BeginsBy device f.journal found R H → Stands device f R → ⊥
  NeverBad f e = ⊤
