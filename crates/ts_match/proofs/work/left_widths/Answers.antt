use Rattle.std.proofs.Common.{◌∙◌, arith, rules}
use Rattle.ts_query.specs.declared.query.Node.TheVariants.{Leaf}
use Rattle.ts_match.proofs.Plans.{node_near, few_nodes, measure_query, measure_more}
use Rattle.ts_match.proofs.work.left_widths.Goals as goal

pub loop-node-init : goal.loop-node-init
loop-node-init c = record {
  run = rw (c.in_ok-widths.ensures.items, c.in_ok-stack.ensures.items, c.nodes-nodes.ensures.value)
      (measure_query c.args.query.now);
  low = rw c.in_ok-stack.ensures.items (omega arith);
  stack_len = omega (arith, c.in_ok-stack.ensures.len);
  stack_room = search rules;
  widths_len = search rules;
  widths_room = search rules;
}

pub measure-left-requires-clause-fits : goal.measure-left-requires-clause-fits
measure-left-requires-clause-fits c =
    let n = node_near c.args.query.now c.nodes-nodes.result.now c.loop-node.node-index
    (Leaf 0) c.nodes-nodes.ensures.value c.nodes-nodes.ensures.sound c.loop-node-test.true in
    let f =
    few_nodes c.args.query.now c.nodes-nodes.result.now c.nodes-nodes.ensures.value c.nodes-nodes.ensures.sound in
    let l = c.loop-node.invariant.low in
    omega arith

pub loop-node-preserved : goal.loop-node-preserved
loop-node-preserved c =
    let n = node_near c.args.query.now c.nodes-nodes.result.now c.loop-node.node-index
    (Leaf 0) c.nodes-nodes.ensures.value c.nodes-nodes.ensures.sound c.loop-node-test.true in record {
      run =
          rw c.push_reserved.ensures.items
          (measure_more c.nodes-nodes.result.now c.loop-node.node-index (Leaf 0) _ _ c.measure-left.result _
          c.loop-node-test.true c.measure-left.ensures.left c.measure-left.ensures.stack
          ∙ c.loop-node.invariant.run);
      low = omega (arith, c.measure-left.ensures.sum, c.loop-node.invariant.low);
      stack_len = omega (arith, c.measure-left.ensures.len, c.loop-node.invariant.stack_len);
      stack_room = c.measure-left.ensures.capacity ∙ c.loop-node.invariant.stack_room;
      widths_len = omega (arith, c.push_reserved.ensures.len, c.loop-node.invariant.widths_len);
      widths_room = c.push_reserved.ensures.capacity ∙ c.loop-node.invariant.widths_room;
    }
