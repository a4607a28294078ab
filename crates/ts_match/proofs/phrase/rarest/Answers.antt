use Rattle.std.proofs.Common.{ap}
use Rattle.ts_match.specs.declared.work.Step.{Step}
use Rattle.ts_match.specs.Inner.Phrases.{no_operand}
use Rattle.ts_match.proofs.Prepared.{leaf_found}
use Rattle.ts_match.proofs.phrase.rarest.Goals as goal

pub count_positions-count-requires : goal.count_positions-count-requires
count_positions-count-requires c =
    let e = c.in-Some.ensures in
    let p = c.args.phrase.now in
    let h = c.requires.found c.loop-step.step-index _ c.loop-step-test.true in
    (leaf_found p.vector.now p.operands.now p.found.now _ c.in-Some.k (ap (λ (x : Step). x.node) e.1) h no_operand
    (record { first = 0; end = 0 })).within
