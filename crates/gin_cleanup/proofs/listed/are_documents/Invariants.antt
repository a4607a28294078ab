use Rattle.std.proofs.Common.{◌<◌, take}
use Rattle.page_types.specs.declared.page.Row.{Row}
use Rattle.core_state.specs.Log.{In}
use Rattle.gin_cleanup.proofs.listed.are_documents.Given as goal

abbrev pub invariant-loop-k : goal.invariant-loop-k
invariant-loop-k l = (w : Row) → In w (take l.k l.rows) → 0 < w.item
