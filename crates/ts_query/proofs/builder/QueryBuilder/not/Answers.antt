use Rattle.std.proofs.Common.{◌+◌, ◌<◌, ◌≤◌, length, ap, sym, subst, ◌∙◌, arith}
use Rattle.ts_query.specs.Building.{with_not, nodes_among}
use Rattle.ts_query.specs.Inner.Built.{trees_in, IsBuilt}
use Rattle.ts_query.proofs.Building.{on_err, trees_built, written, not_more, not_items}
use Rattle.ts_query.proofs.builder.QueryBuilder.not.Goals as goal

pub invariant_of-self : goal.invariant_of-self
invariant_of-self c = written c.not.new.self (trees_in c.self.inside.lists)
    (c.in_err-not.ensures.same _ c.self.invariant.built) c.self.invariant.sound

pub invariant_of-self-2 : goal.invariant_of-self-2
invariant_of-self-2 c =
    let ts = trees_in c.self.inside.lists in
    let n = c.node_count.ensures.value in
    let v = ap nodes_among c.self.view_is in
    let room : nodes_among ts + 1 < 32768 = omega arith in
    let one : 1 ≤ length ts = subst (λ l. 1 ≤ length l) (sym c.self.view_is) c.requires in
    written c.not.new.self (with_not ts) (subst (IsBuilt c.not.new.self) (not_items ts one)
    (c.in_ok-not.ensures.built _ c.self.invariant.built)) (not_more ts one room c.self.invariant.sound)

pub returns-in_err-not-clause-same : goal.returns-in_err-not-clause-same
returns-in_err-not-clause-same c =
    on_err c.from_residual.result (trees_built c.not.new.self (trees_in c.self.inside.lists)
    (c.in_err-not.ensures.same _ c.self.invariant.built) ∙ c.self.view_is)

pub returns-clause-value : goal.returns-clause-value
returns-clause-value c =
    let ts = trees_in c.self.inside.lists in
    let one : 1 ≤ length ts = subst (λ l. 1 ≤ length l) (sym c.self.view_is) c.requires in
    trees_built c.not.new.self (with_not ts) (subst (IsBuilt c.not.new.self) (not_items ts one)
    (c.in_ok-not.ensures.built _ c.self.invariant.built)) ∙ ap with_not c.self.view_is

pub returns-clause-room : goal.returns-clause-room
returns-clause-room c =
    let ts = trees_in c.self.inside.lists in
    let n = c.node_count.ensures.value in
    let v = ap nodes_among c.self.view_is in
    let room : nodes_among ts + 1 < 32768 = omega arith in
    let one : 1 ≤ length ts = subst (λ l. 1 ≤ length l) (sym c.self.view_is) c.requires in
    (written c.not.new.self (with_not ts) (subst (IsBuilt c.not.new.self) (not_items ts one)
    (c.in_ok-not.ensures.built _ c.self.invariant.built)) (not_more ts one room c.self.invariant.sound)).sound.nodes
