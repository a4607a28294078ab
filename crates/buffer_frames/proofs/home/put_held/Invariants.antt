use Rattle.std.proofs.Common.{◌≡◌, ◌++◌, List, length}
use Rattle.page_types.specs.Pages.{IsPage}
use Rattle.core_state.specs.Log.{In}
use Rattle.core_state.specs.Allowed.{Sheet}
use Rattle.buffer_frames.specs.Homes.{HasPut}
use Rattle.buffer_frames.proofs.home.put_held.Given as goal

abbrev pub invariant-loop-one : goal.invariant-loop-one
invariant-loop-one l =
    (done : List Sheet) × (l.initial.held.items ≡ l.held.items ++ done)
    × HasPut l.initial.homes.items l.homes.items done × ((x : Sheet) → In x done → IsPage x.content)

abbrev pub decreases-loop-one : goal.decreases-loop-one
decreases-loop-one l = length l.held.items
