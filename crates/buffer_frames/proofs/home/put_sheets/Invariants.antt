use Rattle.std.proofs.Common.{◌≡◌, ◌++◌, List, length}
use Rattle.core_state.specs.Allowed.{Sheet}
use Rattle.buffer_frames.specs.Homes.{HasPut}
use Rattle.buffer_frames.proofs.home.put_sheets.Given as goal

abbrev pub invariant-loop-sheet : goal.invariant-loop-sheet
invariant-loop-sheet l =
    (done : List Sheet) × (l.initial.sheets.items ≡ l.sheets.items ++ done)
    × HasPut l.initial.homes.items l.homes.items done

abbrev pub decreases-loop-sheet : goal.decreases-loop-sheet
decreases-loop-sheet l = length l.sheets.items
