-- What stays of items of dead documents while others log.
use Rattle.std.specs.Prelude.{◌≡◌, ◌≢◌, ℕ, [], ◌++◌}
use Rattle.core_state.specs.Log.{Log, Pages, Shows}
use Rattle.core_state.specs.VacuumRules.{MayLeave}
use Rattle.core_state.specs.Legal.{IsLegal}
use Rattle.core_state.specs.Steady.{LeavesIndex}
use Rattle.core_state.specs.Allowed.{View, IsAllowed}
use Rattle.core_maintenance.specs.Right.{HasRight}
use Rattle.core_vacuum.specs.Leaving.{IsSwept, IsOut}

-- an item that may leave may do so still, and one without postings gets none
pub record OutStays (R R' : Log) (P Q : Pages) : Type 0 where
  pub leave : (floor i : ℕ) → MayLeave R P floor i → MayLeave R' Q floor i
  pub swept : (i : ℕ) → IsSwept P i → IsSwept Q i
  pub out : (floor i : ℕ) → IsOut R P floor i → IsOut R' Q floor i

-- it is so over later records of none of the kinds 12 to 21
abbrev pub OutHolds : Type 0
OutHolds =
    (R later R' : Log) (P Q : Pages) → R' ≡ later ++ R → R ≢ [] → IsLegal R → IsLegal R'
    → Shows R P → Shows R' Q → LeavesIndex later → OutStays R R' P Q

-- and in each log that is allowed to a session with the right of maintenance
abbrev pub RightKeepsOut : Type 0
RightKeepsOut =
    (v : View) (R : Log) (a : IsAllowed v R) (P : Pages) → HasRight v → Shows v.seen P
    → OutStays v.seen R P a.pages
