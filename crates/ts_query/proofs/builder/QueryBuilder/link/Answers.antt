use Rattle.std.proofs.Common.{◌+◌, ◌<◌, ◌≤◌, length, ap, sym, subst, ◌∙◌, arith}
use Rattle.ts_query.specs.Inner.Parsing.{link_joint}
use Rattle.ts_query.specs.Building.{with_joint, nodes_among}
use Rattle.ts_query.specs.Inner.Built.{trees_in, IsBuilt}
use Rattle.ts_query.proofs.Building.{on_err, trees_built, written, joint_more, joint_more_items}
use Rattle.ts_query.proofs.builder.QueryBuilder.link.Goals as goal

pub invariant_of-self : goal.invariant_of-self
invariant_of-self c = written c.link.new.self (trees_in c.self.inside.lists)
    (c.in_err-link.ensures.same _ c.self.invariant.built) c.self.invariant.sound

pub invariant_of-self-2 : goal.invariant_of-self-2
invariant_of-self-2 c =
    let j = link_joint c.args.link in
    let ts = trees_in c.self.inside.lists in
    let n = c.node_count.ensures.value in
    let v = ap nodes_among c.self.view_is in
    let room : nodes_among ts + 1 < 32768 = omega arith in
    let two : 2 ≤ length ts = subst (λ l. 2 ≤ length l) (sym c.self.view_is) c.requires.trees in
    written c.link.new.self (with_joint j ts) (subst (IsBuilt c.link.new.self)
    (joint_more_items j ts two) (c.in_ok-link.ensures.built _ c.self.invariant.built))
    (joint_more j ts c.requires.near two room c.self.invariant.sound)

pub returns-in_err-link-clause-same : goal.returns-in_err-link-clause-same
returns-in_err-link-clause-same c =
    on_err c.from_residual.result (trees_built c.link.new.self (trees_in c.self.inside.lists)
    (c.in_err-link.ensures.same _ c.self.invariant.built) ∙ c.self.view_is)

pub returns-clause-value : goal.returns-clause-value
returns-clause-value c =
    let j = link_joint c.args.link in
    let ts = trees_in c.self.inside.lists in
    let two : 2 ≤ length ts = subst (λ l. 2 ≤ length l) (sym c.self.view_is) c.requires.trees in
    trees_built c.link.new.self (with_joint j ts) (subst (IsBuilt c.link.new.self) (joint_more_items j ts two)
    (c.in_ok-link.ensures.built _ c.self.invariant.built)) ∙ ap (with_joint j) c.self.view_is

pub returns-clause-room : goal.returns-clause-room
returns-clause-room c =
    let j = link_joint c.args.link in
    let ts = trees_in c.self.inside.lists in
    let n = c.node_count.ensures.value in
    let v = ap nodes_among c.self.view_is in
    let room : nodes_among ts + 1 < 32768 = omega arith in
    let two : 2 ≤ length ts = subst (λ l. 2 ≤ length l) (sym c.self.view_is) c.requires.trees in
    (written c.link.new.self (with_joint j ts) (subst (IsBuilt c.link.new.self)
    (joint_more_items j ts two) (c.in_ok-link.ensures.built _ c.self.invariant.built))
    (joint_more j ts c.requires.near two room c.self.invariant.sound)).sound.nodes
