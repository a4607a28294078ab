use Rattle.core_state.proofs.GreatestNodes.{left_node, right_node, one_below}
use Rattle.core_state.proofs.peaks.descend.Goals as goal

pub loop-span-preserved-then-tree-at : goal.loop-span-preserved-then-tree-at
loop-span-preserved-then-tree-at c = record {
  node = right_node c.args.width c.args.from c.args.bound c.args.tree.now c.loop-span.at c.loop-span.span
      c.loop-span.start c.requires.width c.requires.tree c.loop-span.invariant.node c.loop-span-test.true
      c.if-tree-at.true;
  here = one_below c.args.width c.args.from c.args.bound c.args.tree.now c.loop-span.at c.loop-span.span
      c.loop-span.start c.requires.tree c.loop-span.invariant.node c.loop-span-test.true c.loop-span.invariant.here
      c.if-tree-at.true;
}

pub loop-span-preserved : goal.loop-span-preserved
loop-span-preserved c = record {
  node = left_node c.args.width c.args.from c.args.bound c.args.tree.now c.loop-span.at c.loop-span.span
      c.loop-span.start c.loop-span.invariant.node c.loop-span-test.true;
  here = c.if-tree-at.false;
}
