use Rattle.std.proofs.Common.{arith, set, sym, subst, ◌∙◌}
use Rattle.std.specs.Prelude.{Option, Some, None}
use Rattle.atomic_table.proofs.Lists.{set_else}
use Rattle.latch_table.specs.declared.states.PassState.{PassState}
use Rattle.latch_table.specs.Passes.{state}
use Rattle.latch_bench.specs.declared.slots.Leaf.{Leaf}
use Rattle.latch_bench.specs.declared.slots.Tally.{Tally}
use Rattle.latch_bench.specs.Lent.{AreLent}
use Rattle.latch_bench.proofs.Lending.{at_place, lent_less}
use Rattle.latch_bench.proofs.rows.give_at.Goals as goal

pub give_back-requires-clause-noted : goal.give_back-requires-clause-noted
give_back-requires-clause-noted c =
    let there =
    at_place c.args.row.now c.args.place None (Some c.in-Some.leaf) (omega (arith, c.told-row, c.requires.place))
    (sym c.take.ensures.value ∙ c.in-Some.is) in
    let n = c.requires.lent.each c.args.place c.in-Some.leaf there in
    (n.0, n.1, n.2, n.3, sym n.4)

pub returns-in-Some-clause-lent : goal.returns-in-Some-clause-lent
returns-in-Some-clause-lent c =
    let there =
    at_place c.args.row.now c.args.place None (Some c.in-Some.leaf) (omega (arith, c.told-row, c.requires.place))
    (sym c.take.ensures.value ∙ c.in-Some.is) in
    subst (λ (o : Option Leaf). AreLent (state c.give_back.new.pass).frames c.args.base
    (set c.args.row.now c.args.place o))
    (sym c.take.ensures.after)
    (subst (λ (v : PassState Tally). AreLent v.frames c.args.base (set c.args.row.now c.args.place None))
    (sym c.give_back.ensures.given)
    (lent_less _ _ _ _ c.in-Some.leaf c.requires.lent there))

pub returns-in-Some-clause-others : goal.returns-in-Some-clause-others
returns-in-Some-clause-others c k ne = set_else c.args.row.now c.args.place k _ ne
