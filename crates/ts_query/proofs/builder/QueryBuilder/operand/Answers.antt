use Rattle.std.proofs.Common.{◌+◌, ◌<◌, ◌∷◌, ap, ◌∙◌, arith}
use Rattle.ts_query.specs.Queries.{leaf, HasLexeme}
use Rattle.ts_query.specs.Tokens.{operand}
use Rattle.ts_query.specs.Building.{nodes_among}
use Rattle.ts_query.specs.Inner.Built.{trees_in}
use Rattle.ts_query.proofs.Building.{on_err, trees_built, written, operands_below, leaf_more}
use Rattle.ts_query.proofs.builder.QueryBuilder.operand.Goals as goal

pub leaf-requires : goal.leaf-requires
leaf-requires c =
    operands_below c.self.inside.lists (trees_in c.self.inside.lists) c.self.invariant.built c.self.invariant.sound

pub invariant_of-self : goal.invariant_of-self
invariant_of-self c = written c.leaf.new.self (trees_in c.self.inside.lists)
    (c.in_err-leaf.ensures.same _ c.self.invariant.built) c.self.invariant.sound

pub invariant_of-self-2 : goal.invariant_of-self-2
invariant_of-self-2 c =
    let o = operand c.args.lexeme c.args.weights c.args.prefix in
    let ts = trees_in c.self.inside.lists in
    let n = c.node_count.ensures.value in
    let v = ap nodes_among c.self.view_is in
    let room : nodes_among ts + 1 < 32768 = omega arith in
    let l : HasLexeme o = c.as_str.ensures.valid in
    written c.leaf.new.self (leaf o ∷ ts) (c.in_ok-leaf.ensures.built _ c.self.invariant.built)
    (leaf_more o ts l room c.self.invariant.sound)

pub returns-in_err-leaf-clause-same : goal.returns-in_err-leaf-clause-same
returns-in_err-leaf-clause-same c =
    on_err c.from_residual.result (trees_built c.leaf.new.self (trees_in c.self.inside.lists)
    (c.in_err-leaf.ensures.same _ c.self.invariant.built) ∙ c.self.view_is)

pub returns-clause-value : goal.returns-clause-value
returns-clause-value c =
    let o = operand c.args.lexeme c.args.weights c.args.prefix in
    trees_built c.leaf.new.self (leaf o ∷ trees_in c.self.inside.lists)
    (c.in_ok-leaf.ensures.built _ c.self.invariant.built) ∙ ap (λ l. leaf o ∷ l) c.self.view_is

pub returns-clause-room : goal.returns-clause-room
returns-clause-room c =
    let o = operand c.args.lexeme c.args.weights c.args.prefix in
    let ts = trees_in c.self.inside.lists in
    let n = c.node_count.ensures.value in
    let v = ap nodes_among c.self.view_is in
    let room : nodes_among ts + 1 < 32768 = omega arith in
    let l : HasLexeme o = c.as_str.ensures.valid in
    (written c.leaf.new.self (leaf o ∷ ts) (c.in_ok-leaf.ensures.built _ c.self.invariant.built)
    (leaf_more o ts l room c.self.invariant.sound)).sound.nodes
