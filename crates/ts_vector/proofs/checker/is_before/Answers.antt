use Rattle.std.proofs.Common.{arith}
use Rattle.ts_vector.proofs.ByteOrder.{on_same, told_here, told_end}
use Rattle.ts_vector.proofs.checker.is_before.Goals as goal

pub returns-then-a-b : goal.returns-then-a-b
returns-then-a-b c =
    let a = c.args.first.now in
    let b = c.args.second.now in
    told_here a b c.loop-i.i (omega (arith, c.min-shorter.ensures))
    (omega (arith, c.min-shorter.ensures)) c.loop-i.invariant c.if-a-b.true

pub loop-i-preserved : goal.loop-i-preserved
loop-i-preserved c =
    let a = c.args.first.now in
    let b = c.args.second.now in
    on_same a b c.loop-i.i (omega (arith, c.min-shorter.ensures))
    (omega (arith, c.min-shorter.ensures)) c.loop-i.invariant c.if-a-b.false

pub returns : goal.returns
returns c =
    told_end c.args.first.now c.args.second.now c.loop-i.i c.loop-i.invariant (omega (arith, c.min-shorter.ensures))
