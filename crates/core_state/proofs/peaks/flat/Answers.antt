use Rattle.std.proofs.Common.{ℕ, replicate, ap, ◌∙◌, arith}
use Rattle.core_state.proofs.GreatestNodes.{flat_row}
use Rattle.core_state.proofs.peaks.flat.Goals as goal

pub returns : goal.returns
returns c = flat_row c.args.width c.loop-place.tree.items
    (c.loop-place.invariant.0 ∙ ap (λ (n : ℕ). replicate n 0) (omega arith))
