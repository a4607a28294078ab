use Rattle.std.proofs.Common.{◌<◌, ℕ, get_or}
use Rattle.posting_code.proofs.searching.below.Given as goal

abbrev pub invariant-loop-place : goal.invariant-loop-place
invariant-loop-place l = (j : ℕ) → j < l.place → get_or l.items j 0 < l.item
