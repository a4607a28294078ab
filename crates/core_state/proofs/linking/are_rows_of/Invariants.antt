use Rattle.std.proofs.Common.{drop}
use Rattle.std.specs.Prelude.{◌↔◌}
use Rattle.page_types.specs.Parts.{pieces_shown}
use Rattle.core_state.specs.Inner.PendingRows.{AreRowsOf}
use Rattle.core_state.proofs.FollowingRows.{RowsFollow}
use Rattle.core_state.proofs.linking.are_rows_of.Given as goal

abbrev pub invariant-loop-k : goal.invariant-loop-k
invariant-loop-k l = AreRowsOf l.item l.rows ↔ RowsFollow l.item (pieces_shown l.before) (drop l.k l.rows)
