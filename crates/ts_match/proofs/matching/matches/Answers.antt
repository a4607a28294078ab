use Rattle.std.specs.Prelude.{◌↔◌, IsTrue}
use Rattle.std.proofs.Common.{subst, arith}
use Rattle.ts_base.specs.Vectors.{Vector}
use Rattle.ts_match.specs.Meaning.{Holds}
use Rattle.ts_match.proofs.Heights.{rows_kept}
use Rattle.ts_match.proofs.matching.matches.Goals as goal

pub evaluate-requires-clause-bounds : goal.evaluate-requires-clause-bounds
evaluate-requires-clause-bounds c = λ k o b l m. absurd (omega arith)

pub invariant_of-work : goal.invariant_of-work
invariant_of-work c = (
  let a = c.work.invariant.0 in let b = c.evaluate.ensures.found in omega arith,
  let a = c.work.invariant.1 in let b = c.evaluate.ensures.truths in omega arith,
  c.work.invariant.2,
  rows_kept _ _ _ _ _ c.work.invariant.3 c.evaluate.ensures.bit_sets,
)

pub returns-clause-meaning : goal.returns-clause-meaning
returns-clause-meaning c = subst (λ (v : Vector). IsTrue c.evaluate.result ↔ Holds c.args.query.now v) c.listed.ensures
    c.evaluate.ensures.meaning
