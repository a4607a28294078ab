use Rattle.std.proofs.Common.{◌<◌, length, get_or, ap, ◌∙◌, sym, subst, arith}
use Rattle.std.proofs.lemmas.List.{drop_all}
use Rattle.ts_query.specs.Queries.{or_joint, and_joint, phrase_joint}
use Rattle.ts_query.specs.declared.query.Node.TheVariants.{Leaf, Not, And, Or, Phrase}
use Rattle.ts_query.proofs.Built.{leafed, leafed_there, leafed_is, copied_few, copied_below, copied_none, copied_leaf}
use Rattle.ts_query.proofs.Built.{copied_not, copied_joint, copied_all, copied_to, next_node, same_operand}
use Rattle.ts_query.proofs.query.Builder.copy.Goals.{in-Leaf+in_ok-clone-in-Leaf+in_ok-leaf-in-Leaf}
use Rattle.ts_query.proofs.query.Builder.copy.Goals.{in-Not+in_ok-not-in-Not, in-And+in_ok-link-in-And}
use Rattle.ts_query.proofs.query.Builder.copy.Goals.{in-Or+in_ok-link-in-Or, in-Phrase+in_ok-link-in-Phrase}
use Rattle.ts_query.proofs.query.Builder.copy.Goals as goal

pub loop-node-init : goal.loop-node-init
loop-node-init c = copied_none c.args.query.now c.args.self.now _ c.nodes-node-items.ensures.value

there : (c : goal.After-operands) → c.loop-node.next < length c.operands.result.now
there c =
    let l = c.nodes-node-items.result.now in
    let e = next_node c.nodes-node-items.result.now c.loop-node.node-index
    (Leaf c.in-Leaf.field-0) c.loop-node-test.true c.in-Leaf.is in
    let f = leafed c.args.query.now c.args.self.now c.loop-node.self c.loop-node.next c.in-Leaf.field-0 _ _
    c.loop-node.invariant e in
    let g = leafed_there c.args.query.now c.loop-node.next f in
    subst (λ l. c.loop-node.next < length l) (sym c.operands.ensures.value) g

pub bounds-operands-next : goal.bounds-operands-next
bounds-operands-next c = there c

pub offset_bounds-operands-next : goal.offset_bounds-operands-next
offset_bounds-operands-next c =
    let h = copied_below c.args.query.now c.args.self.now c.loop-node.self c.loop-node.next _ c.loop-node.invariant
    c.nodes-node-items.ensures.sound.nodes in
    omega arith

pub overflow_add-next : goal.overflow_add-next
overflow_add-next c =
    let h = copied_below c.args.query.now c.args.self.now c.loop-node.self c.loop-node.next _ c.loop-node.invariant
    c.nodes-node-items.ensures.sound.nodes in
    omega arith

pub leaf-requires : goal.leaf-requires
leaf-requires c =
    copied_few c.args.query.now c.args.self.now c.loop-node.self c.loop-node.next _ c.requires.0 c.loop-node.invariant
    c.requires.1 c.requires.2 c.nodes-node-items.ensures.sound.nodes

pub loop-node-preserved : goal.loop-node-preserved
loop-node-preserved c =
    let l = c.nodes-node-items.result.now in
    elim c.match-node.branch [
      | in-Leaf+in_ok-clone-in-Leaf+in_ok-leaf-in-Leaf w ↦
          (let e = next_node c.nodes-node-items.result.now c.loop-node.node-index
          (Leaf w.in-Leaf.field-0) c.loop-node-test.true w.in-Leaf.is in
          let f = leafed c.args.query.now c.args.self.now c.loop-node.self c.loop-node.next w.in-Leaf.field-0 _ _
          c.loop-node.invariant e in
          let o = same_operand _ _ w.in_ok-clone-in-Leaf.ensures.cases in
          let g = w.index-operands-next.is
          ∙ ap (λ l. get_or l c.loop-node.next w.index-operands-next.result) w.operands.ensures.value in
          copied_to _ _ w.leaf.new.self _ _ _ _ w.self-is w.next-is
          (copied_leaf c.args.query.now c.args.self.now c.loop-node.self w.leaf.new.self c.loop-node.next
          w.in-Leaf.field-0 _ _ c.loop-node.invariant e w.in_ok-clone-in-Leaf.field-0
          (o ∙ g ∙ leafed_is c.args.query.now c.loop-node.next w.index-operands-next.result f)
          w.in_ok-leaf-in-Leaf.ensures.built))
      | in-Not+in_ok-not-in-Not w ↦
          copied_to _ _ w.not.new.self _ _ _ _ w.self-is w.next-is
          (copied_not c.args.query.now c.args.self.now c.loop-node.self w.not.new.self c.loop-node.next _ _
          c.loop-node.invariant
          (next_node c.nodes-node-items.result.now c.loop-node.node-index Not c.loop-node-test.true w.in-Not.is)
          w.in_ok-not-in-Not.ensures.built)
      | in-And+in_ok-link-in-And w ↦
          copied_to _ _ w.link.new.self _ _ _ _ w.self-is w.next-is
          (copied_joint and_joint c.args.query.now c.args.self.now c.loop-node.self w.link.new.self c.loop-node.next _ _
          c.loop-node.invariant
          (next_node c.nodes-node-items.result.now c.loop-node.node-index And c.loop-node-test.true w.in-And.is)
          w.in_ok-link-in-And.ensures.built)
      | in-Or+in_ok-link-in-Or w ↦
          copied_to _ _ w.link-in-Or.new.self _ _ _ _ w.self-is w.next-is
          (copied_joint or_joint c.args.query.now c.args.self.now c.loop-node.self w.link-in-Or.new.self
          c.loop-node.next _ _ c.loop-node.invariant
          (next_node c.nodes-node-items.result.now c.loop-node.node-index Or c.loop-node-test.true w.in-Or.is)
          w.in_ok-link-in-Or.ensures.built)
      | in-Phrase+in_ok-link-in-Phrase w ↦
          copied_to _ _ w.link-in-Phrase.new.self _ _ _ _ w.self-is w.next-is
          (copied_joint (phrase_joint w.in-Phrase.distance) c.args.query.now c.args.self.now c.loop-node.self
          w.link-in-Phrase.new.self c.loop-node.next _ _ c.loop-node.invariant
          (next_node c.nodes-node-items.result.now c.loop-node.node-index
          (Phrase w.in-Phrase.distance) c.loop-node-test.true w.in-Phrase.is) w.in_ok-link-in-Phrase.ensures.built)
    ]

pub returns-clause-items : goal.returns-clause-items
returns-clause-items c is h = copied_all c.args.query.now c.args.self.now c.loop-node.self c.loop-node.next _
    c.loop-node.invariant (drop_all c.loop-node.node-index c.nodes-node-items.result.now c.loop-node-test.false) is h
