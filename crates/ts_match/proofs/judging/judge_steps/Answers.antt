use Rattle.std.proofs.Common.{◌≤◌, List, [], length, reverse, sym, ap, ◌∙◌, arith}
use Rattle.std.proofs.Math.ListN.{drop_of_length-le}
use Rattle.ts_base.specs.declared.Tri.TheVariants.{False}
use Rattle.ts_query.specs.declared.query.Node.TheVariants.{Leaf}
use Rattle.ts_query.specs.declared.query.Operand.{Operand}
use Rattle.ts_query.specs.Queries.{operands_of}
use Rattle.ts_match.specs.declared.work.Place.TheVariants.{Outside}
use Rattle.ts_match.specs.Inner.Stacks.{top_or}
use Rattle.ts_match.proofs.PlanSteps.{ready_steps}
use Rattle.ts_match.proofs.Weighed.{weigh_all, weigh_query}
use Rattle.ts_match.proofs.judging.judge_steps.Goals as goal

pub given-value-requires-clause-operand : goal.given-value-requires-clause-operand
given-value-requires-clause-operand c =
    let a = ready_steps c.args.query.now c.args.steps.now c.operands-operands.result.now c.requires.plan
    c.operands-operands.ensures.value c.operands-operands.ensures.sound in
    (a c.loop-step.step-index (record { node = Leaf 0; place = Outside 0 0 }) c.loop-step-test.true).operand

pub returns-clause-answer : goal.returns-clause-answer
returns-clause-answer c =
    let os = c.operands-operands.result.now in
    let vs = c.args.values.now in
    let done = drop_of_length-le c.args.steps.now
    (let l : length c.args.steps.now ≤ c.loop-step.step-index = omega arith in l) in
    let left = ap (λ l. weigh_all os vs l (reverse c.loop-step.stack.items)) (sym done) ∙ c.loop-step.invariant.run in
    c.take_top.ensures.top
    ∙ ap (top_or False) (left ∙ ap (λ (o : List Operand). weigh_all o vs c.args.steps.now [])
    c.operands-operands.ensures.value ∙ ap (λ l. weigh_all (operands_of c.args.query.now) vs l []) c.requires.plan)
    ∙ weigh_query c.args.query.now vs
