use Rattle.std.proofs.Common.{◌≡◌, ◌≤◌, max, subst, arith, ap, ◌∙◌}
use Rattle.std.specs.Prelude.{All}
use Rattle.std.proofs.lemmas.List.{take_all}
use Rattle.ts_vector.proofs.Greatest.{step_bound, step_met}
use Rattle.ts_vector.proofs.changes.greatest_from.Goals as goal

pub loop-position-preserved : goal.loop-position-preserved
loop-position-preserved c =
    let p = c.position-item.result in
    let h = c.max-greatest.result in
    let e : h ≡ max c.loop-position.greatest p.at =
    c.max-greatest.ensures ∙ ap (λ n. max c.loop-position.greatest n) c.at.ensures.value in
    let v = c.at.ensures.valid in
    let i = c.loop-position.invariant in (
      omega (arith, i.0),
      omega (arith, i.1, v.1),
      step_bound c.args.positions.now c.loop-position.position-index p c.loop-position.greatest h
          c.loop-position-test.true c.position-item.is e i.2,
      step_met c.args.positions.now c.loop-position.position-index p c.args.from c.loop-position.greatest h
          c.loop-position-test.true c.position-item.is e i.3,
    )

pub returns-clause-bound : goal.returns-clause-bound
returns-clause-bound c =
    subst (All (λ p. p.at ≤ c.loop-position.greatest))
    (take_all c.loop-position.position-index c.args.positions.now (omega arith)) c.loop-position.invariant.2
