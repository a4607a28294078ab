use Rattle.std.proofs.Common.{◌≡◌, ◌++◌, replicate}
use Rattle.std.specs.Vec.{vec_capacity}
use Rattle.core_state.proofs.sizes.put_size.Given as goal

abbrev pub invariant-loop-added : goal.invariant-loop-added
invariant-loop-added l = (l.sizes.items ≡ l.initial.sizes.items ++ replicate l.added 0)
    × (vec_capacity l.sizes ≡ vec_capacity l.initial.sizes)
