use Rattle.std.proofs.Common.{arith}
use Rattle.ts_match.proofs.Words.{joined_row, or_by, or_not}
use Rattle.ts_match.proofs.bit_sets.join.Goals as goal
use Rattle.ts_match.proofs.bit_sets.join.Goals.{then-bits, else-bits}

pub returns-clause-value : goal.returns-clause-value
returns-clause-value c =
    let a = c.args.bits.now in
    let b = c.args.other.now in
    joined_row c.args.count a.words.items b.words.items c.loop-k.bits.words.items a.rest b.rest c.if-bits.bits
    (λ k h. c.loop-k.invariant.below k (omega arith))
    (elim c.if-bits.branch [
      | then-bits w ↦ or_by _ _ _ _ c.loop-k.invariant.rest w.if-bits.true w.bits-is
      | else-bits w ↦ or_not _ _ _ _ c.loop-k.invariant.rest w.if-bits.false w.bits-is
    ])
