use Rattle.std.proofs.Common.{◌<◌, length, get_or, ap, ◌∙◌, sym, subst, arith}
use Rattle.std.proofs.lemmas.List.{drop_all}
use Rattle.std.proofs.lemmas.Result.{err_from_is_err_and}
use Rattle.ts_query.specs.Queries.{or_joint, and_joint, phrase_joint}
use Rattle.ts_query.specs.declared.query.Node.TheVariants.{Leaf, Not, And, Or, Phrase}
use Rattle.ts_query.proofs.Built.{next_node}
use Rattle.ts_make.specs.Made.{IsMadeOf}
use Rattle.ts_make.proofs.Remaking as remaking
use Rattle.ts_make.proofs.queries.remade.Goals.{in-Leaf+in_ok-operand-in-Leaf, in-Not+in_ok-not-in-Not}
use Rattle.ts_make.proofs.queries.remade.Goals.{in-And+in_ok-join-in-And, in-Or+in_ok-join-in-Or}
use Rattle.ts_make.proofs.queries.remade.Goals.{in-Phrase+in_ok-join-in-Phrase}
use Rattle.ts_make.proofs.queries.remade.Goals as goal

pub loop-node-init : goal.loop-node-init
loop-node-init c =
    remaking.remaking_start c.args.configs.now c.args.config.now c.args.query.now c.new-maker.result
    _ c.nodes-node-items.ensures.value c.new-maker.ensures

-- ── the node is an operand ──
there : (c : goal.After-operands) → c.loop-node.next < length c.operands.result.now
there c =
    let e =
    next_node c.nodes-node-items.result.now c.loop-node.node-index
    (Leaf c.in-Leaf.field-0) c.loop-node-test.true c.in-Leaf.is in
    let n =
    remaking.next_operand c.args.configs.now c.args.config.now c.args.query.now
    c.loop-node.maker c.loop-node.next c.in-Leaf.field-0 _ _ c.loop-node.invariant e in
    subst (λ l. c.loop-node.next < length l) (sym c.operands.ensures.value)
    (remaking.operand_there c.args.configs.now c.args.config.now c.args.query.now c.loop-node.maker
    c.loop-node.next _ n)

pub bounds-operands-next : goal.bounds-operands-next
bounds-operands-next c = there c

pub offset_bounds-operands-next : goal.offset_bounds-operands-next
offset_bounds-operands-next c =
    let h =
    remaking.next_below c.args.configs.now c.args.config.now c.args.query.now c.loop-node.maker
    c.loop-node.next _ c.loop-node.invariant c.nodes-node-items.ensures.sound.nodes in
    omega arith

pub overflow_add-next : goal.overflow_add-next
overflow_add-next c =
    let h =
    remaking.next_below c.args.configs.now c.args.config.now c.args.query.now c.loop-node.maker
    c.loop-node.next _ c.loop-node.invariant c.nodes-node-items.ensures.sound.nodes in
    omega arith

pub operand-requires : goal.operand-requires
operand-requires c =
    let e =
    next_node c.nodes-node-items.result.now c.loop-node.node-index
    (Leaf c.in-Leaf.field-0) c.loop-node-test.true c.in-Leaf.is in
    let n =
    remaking.next_operand c.args.configs.now c.args.config.now c.args.query.now
    c.loop-node.maker c.loop-node.next c.in-Leaf.field-0 _ _ c.loop-node.invariant e in
    record { within = c.requires; making = (n.sketches, n.making) }

pub returns-in_err-operand-in-Leaf-clause-refused :
    goal.returns-in_err-operand-in-Leaf-clause-refused
returns-in_err-operand-in-Leaf-clause-refused c =
    let p = err_from_is_err_and c.from_residual.result c.from_residual.ensures.1 in
    let e =
    next_node c.nodes-node-items.result.now c.loop-node.node-index
    (Leaf c.in-Leaf.field-0) c.loop-node-test.true c.in-Leaf.is in
    let n =
    remaking.next_operand c.args.configs.now c.args.config.now c.args.query.now
    c.loop-node.maker c.loop-node.next c.in-Leaf.field-0 _ _ c.loop-node.invariant e in
    let g =
    c.index-operands-next.is
    ∙ ap (λ l. get_or l c.loop-node.next c.index-operands-next.result)
    c.operands.ensures.value in
    let o =
    g ∙ remaking.operand_is c.args.configs.now c.args.config.now c.args.query.now
    c.loop-node.maker c.loop-node.next _ n c.index-operands-next.result in
    rw (p.1, p.2)
    (remaking.operand_refused_by c.args.configs.now c.args.config.now c.args.query.now
    c.loop-node.maker c.loop-node.next _ n c.in_err-operand-in-Leaf.field-0.0
    c.index-operands-next.result
    c.as_str-text.result.now c.as_str-text.ensures.value o c.in_err-operand-in-Leaf.ensures.refused)

-- ── it is `!` ──
pub not-requires : goal.not-requires
not-requires c =
    let e =
    next_node c.nodes-node-items.result.now c.loop-node.node-index Not c.loop-node-test.true
    c.in-Not.is in
    let n =
    remaking.next_not c.args.configs.now c.args.config.now c.args.query.now c.loop-node.maker
    c.loop-node.next _ _ c.loop-node.invariant e in
    (n.sketch, n.sketches, n.making)

pub returns-in_err-not-in-Not-clause-refused : goal.returns-in_err-not-in-Not-clause-refused
returns-in_err-not-in-Not-clause-refused c =
    let p =
    err_from_is_err_and c.from_residual-in_err-not-in-Not.result
    c.from_residual-in_err-not-in-Not.ensures.1 in
    let e =
    next_node c.nodes-node-items.result.now c.loop-node.node-index Not c.loop-node-test.true
    c.in-Not.is in
    let n =
    remaking.next_not c.args.configs.now c.args.config.now c.args.query.now c.loop-node.maker
    c.loop-node.next _ _ c.loop-node.invariant e in
    rw (p.1, p.2) (remaking.not_refused c.args.configs.now c.args.config.now c.args.query.now
    c.loop-node.maker c.loop-node.next _ n c.in_err-not-in-Not.field-0.0
    c.in_err-not-in-Not.ensures.refused)

-- ── it is an operator ──
pub join-requires : goal.join-requires
join-requires c =
    let e =
    next_node c.nodes-node-items.result.now c.loop-node.node-index And c.loop-node-test.true
    c.in-And.is in
    let n =
    remaking.next_joint c.args.configs.now c.args.config.now and_joint c.args.query.now
    c.loop-node.maker c.loop-node.next _ _ c.loop-node.invariant e in
    (n.first_sketch, n.second_sketch, n.sketches, n.making)

pub join-requires-in-Or : goal.join-requires-in-Or
join-requires-in-Or c =
    let e =
    next_node c.nodes-node-items.result.now c.loop-node.node-index Or c.loop-node-test.true
    c.in-Or.is in
    let n =
    remaking.next_joint c.args.configs.now c.args.config.now or_joint c.args.query.now
    c.loop-node.maker c.loop-node.next _ _ c.loop-node.invariant e in
    (n.first_sketch, n.second_sketch, n.sketches, n.making)

pub join-requires-in-Phrase : goal.join-requires-in-Phrase
join-requires-in-Phrase c =
    let e =
    next_node c.nodes-node-items.result.now c.loop-node.node-index
    (Phrase c.in-Phrase.distance) c.loop-node-test.true c.in-Phrase.is in
    let n =
    remaking.next_joint c.args.configs.now c.args.config.now
    (phrase_joint c.in-Phrase.distance) c.args.query.now c.loop-node.maker c.loop-node.next _ _
    c.loop-node.invariant e in
    (n.first_sketch, n.second_sketch, n.sketches, n.making)

pub returns-in_err-join-in-And-clause-refused : goal.returns-in_err-join-in-And-clause-refused
returns-in_err-join-in-And-clause-refused c =
    let p =
    err_from_is_err_and c.from_residual-in_err-join-in-And.result
    c.from_residual-in_err-join-in-And.ensures.1 in
    let e =
    next_node c.nodes-node-items.result.now c.loop-node.node-index And c.loop-node-test.true
    c.in-And.is in
    let n =
    remaking.next_joint c.args.configs.now c.args.config.now and_joint c.args.query.now
    c.loop-node.maker c.loop-node.next _ _ c.loop-node.invariant e in
    rw (p.1, p.2) (remaking.joint_refused c.args.configs.now c.args.config.now and_joint
    c.args.query.now c.loop-node.maker c.loop-node.next _ n c.in_err-join-in-And.field-0.0
    c.in_err-join-in-And.ensures.refused)

pub returns-in_err-join-in-Or-clause-refused : goal.returns-in_err-join-in-Or-clause-refused
returns-in_err-join-in-Or-clause-refused c =
    let p =
    err_from_is_err_and c.from_residual-in_err-join-in-Or.result
    c.from_residual-in_err-join-in-Or.ensures.1 in
    let e =
    next_node c.nodes-node-items.result.now c.loop-node.node-index Or c.loop-node-test.true
    c.in-Or.is in
    let n =
    remaking.next_joint c.args.configs.now c.args.config.now or_joint c.args.query.now
    c.loop-node.maker c.loop-node.next _ _ c.loop-node.invariant e in
    rw (p.1, p.2) (remaking.joint_refused c.args.configs.now c.args.config.now or_joint
    c.args.query.now c.loop-node.maker c.loop-node.next _ n c.in_err-join-in-Or.field-0.0
    c.in_err-join-in-Or.ensures.refused)

pub returns-in_err-join-in-Phrase-clause-refused :
    goal.returns-in_err-join-in-Phrase-clause-refused
returns-in_err-join-in-Phrase-clause-refused c =
    let p =
    err_from_is_err_and c.from_residual-in_err-join-in-Phrase.result
    c.from_residual-in_err-join-in-Phrase.ensures.1 in
    let e =
    next_node c.nodes-node-items.result.now c.loop-node.node-index
    (Phrase c.in-Phrase.distance) c.loop-node-test.true c.in-Phrase.is in
    let n =
    remaking.next_joint c.args.configs.now c.args.config.now
    (phrase_joint c.in-Phrase.distance) c.args.query.now c.loop-node.maker c.loop-node.next _ _
    c.loop-node.invariant e in
    rw (p.1, p.2)
    (remaking.joint_refused c.args.configs.now c.args.config.now
    (phrase_joint c.in-Phrase.distance) c.args.query.now c.loop-node.maker c.loop-node.next _ n
    c.in_err-join-in-Phrase.field-0.0
    c.in_err-join-in-Phrase.ensures.refused)

-- ── node by node ──
pub loop-node-preserved : goal.loop-node-preserved
loop-node-preserved c =
    let k = c.args.configs.now in
    let m = c.args.config.now in
    let q = c.args.query.now in
    let node = next_node c.nodes-node-items.result.now c.loop-node.node-index in
    elim c.match-node.branch [
      | in-Leaf+in_ok-operand-in-Leaf w ↦
          (let n = remaking.next_operand k m q c.loop-node.maker c.loop-node.next w.in-Leaf.field-0
          _ _ c.loop-node.invariant
          (node (Leaf w.in-Leaf.field-0) c.loop-node-test.true w.in-Leaf.is) in
          let g =
          w.index-operands-next.is
          ∙ ap (λ l. get_or l c.loop-node.next w.index-operands-next.result)
          w.operands.ensures.value in
          let o =
          g ∙ remaking.operand_is k m q c.loop-node.maker c.loop-node.next _ n
          w.index-operands-next.result in
          remaking.remaking_to k m q w.operand.new.self _ _ _ _ w.maker-is w.next-is
          (remaking.operand_made_by k m q c.loop-node.maker w.operand.new.self c.loop-node.next _ n
          w.index-operands-next.result w.as_str-text.result.now w.as_str-text.ensures.value o
          w.in_ok-operand-in-Leaf.ensures.value))
      | in-Not+in_ok-not-in-Not w ↦
          (let n = remaking.next_not k m q c.loop-node.maker c.loop-node.next _ _
          c.loop-node.invariant (node Not c.loop-node-test.true w.in-Not.is) in
          remaking.remaking_to k m q w.not.new.self _ _ _ _ w.maker-is w.next-is
          (remaking.not_made k m q c.loop-node.maker w.not.new.self c.loop-node.next _ n
          w.in_ok-not-in-Not.ensures.value))
      | in-And+in_ok-join-in-And w ↦
          (let n = remaking.next_joint k m and_joint q c.loop-node.maker c.loop-node.next _ _
          c.loop-node.invariant (node And c.loop-node-test.true w.in-And.is) in
          remaking.remaking_to k m q w.join.new.self _ _ _ _ w.maker-is w.next-is
          (remaking.joint_made k m and_joint q c.loop-node.maker w.join.new.self c.loop-node.next _ n
          w.in_ok-join-in-And.ensures.value))
      | in-Or+in_ok-join-in-Or w ↦
          (let n = remaking.next_joint k m or_joint q c.loop-node.maker c.loop-node.next _ _
          c.loop-node.invariant (node Or c.loop-node-test.true w.in-Or.is) in
          remaking.remaking_to k m q w.join-in-Or.new.self _ _ _ _ w.maker-is w.next-is
          (remaking.joint_made k m or_joint q c.loop-node.maker w.join-in-Or.new.self c.loop-node.next _ n
          w.in_ok-join-in-Or.ensures.value))
      | in-Phrase+in_ok-join-in-Phrase w ↦
          (let n = remaking.next_joint k m
          (phrase_joint w.in-Phrase.distance) q c.loop-node.maker c.loop-node.next _ _
          c.loop-node.invariant (node
          (Phrase w.in-Phrase.distance) c.loop-node-test.true w.in-Phrase.is) in
          remaking.remaking_to k m q w.join-in-Phrase.new.self _ _ _ _ w.maker-is w.next-is
          (remaking.joint_made k m
          (phrase_joint w.in-Phrase.distance) q c.loop-node.maker w.join-in-Phrase.new.self c.loop-node.next
          _ n w.in_ok-join-in-Phrase.ensures.value))
    ]

-- ── the end ──
pub finish-requires : goal.finish-requires
finish-requires c =
    let r =
    remaking.remade c.args.configs.now c.args.config.now c.args.query.now c.loop-node.maker
    c.loop-node.next _ c.loop-node.invariant
    (drop_all c.loop-node.node-index c.nodes-node-items.result.now c.loop-node-test.false) in
    (r.sketches, r.few, r.making)

pub returns-clause-value : goal.returns-clause-value
returns-clause-value c =
    let r =
    remaking.remade c.args.configs.now c.args.config.now c.args.query.now c.loop-node.maker
    c.loop-node.next _ c.loop-node.invariant
    (drop_all c.loop-node.node-index c.nodes-node-items.result.now c.loop-node-test.false) in
    subst (IsMadeOf c.args.configs.now c.args.config.now c.args.query.now)
    (sym (c.finish.ensures.value r.sketches r.few r.making)) r.value
