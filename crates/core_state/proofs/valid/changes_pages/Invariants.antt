use Rattle.std.proofs.Common.{◌≡◌, ◌<◌, ℕ, get_or}
use Rattle.core_state.specs.Log.{pages_of}
use Rattle.core_state.proofs.valid.changes_pages.Given as goal

abbrev pub invariant-loop-i : goal.invariant-loop-i
invariant-loop-i l = (k : ℕ) → k < l.i → get_or (pages_of l.changes) k 0 ≡ get_or l.pages k 0
