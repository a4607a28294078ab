use Rattle.std.proofs.Common.{◌≡◌, ◌*◌, replicate}
use Rattle.std.specs.Vec.{vec_capacity}
use Rattle.core_state.proofs.peaks.flat.Given as goal

abbrev pub invariant-loop-place : goal.invariant-loop-place
invariant-loop-place l = (l.tree.items ≡ replicate l.place 0) × (vec_capacity l.tree ≡ 2 * l.width)
