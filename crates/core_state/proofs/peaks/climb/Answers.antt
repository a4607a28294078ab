use Rattle.std.proofs.Common.{◌+◌, arith}
use Rattle.core_state.proofs.GreatestNodes.{more_before, next_node, node_above}
use Rattle.core_state.proofs.peaks.climb.Goals as goal

pub returns-then-start-width-clause-none : goal.returns-then-start-width-clause-none
returns-then-start-width-clause-none c = λ l low high.
    let end = c.if-start-width.true in
    more_before c.args.width c.args.from c.args.bound c.args.tree.now c.loop-at.at c.loop-at.span c.loop-at.start
    c.requires.tree c.loop-at.invariant c.loop-at-test.true l low (omega (arith, high, end)) high

pub loop-at-preserved-then-at-eq0 : goal.loop-at-preserved-then-at-eq0
loop-at-preserved-then-at-eq0 c =
    node_above c.args.width c.args.from c.args.bound c.args.tree.now (c.loop-at.at + 1) c.loop-at.span
    (c.loop-at.start + c.loop-at.span)
    (next_node c.args.width c.args.from c.args.bound c.args.tree.now c.loop-at.at c.loop-at.span c.loop-at.start
    c.requires.tree c.loop-at.invariant c.loop-at-test.true c.if-start-width.false)
    c.if-at-eq0.true

pub loop-at-preserved : goal.loop-at-preserved
loop-at-preserved c =
    next_node c.args.width c.args.from c.args.bound c.args.tree.now c.loop-at.at c.loop-at.span c.loop-at.start
    c.requires.tree c.loop-at.invariant c.loop-at-test.true c.if-start-width.false
