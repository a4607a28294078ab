use Rattle.std.specs.Prelude.{◌↔◌, IsTrue}
use Rattle.std.proofs.Common.{sym, subst, List, arith}
use Rattle.ts_base.specs.Vectors.{Vector}
use Rattle.ts_query.specs.declared.query.Operand.{Operand}
use Rattle.ts_query.specs.Queries.{operands_of}
use Rattle.ts_match.specs.declared.pass.Bounds.{Bounds}
use Rattle.ts_match.specs.Meaning.{Holds}
use Rattle.ts_match.specs.Inner.Pass.{AreBounds}
use Rattle.ts_match.proofs.Heights.{rows_kept}
use Rattle.ts_match.proofs.matching.matches_encoded.Goals as goal

pub evaluate-requires-clause-bounds : goal.evaluate-requires-clause-bounds
evaluate-requires-clause-bounds c =
    let os = operands_of c.args.query.now in
    let v = c.args.vector.now in
    let b = c.find_bounds.new.bounds.items in
    let known : AreBounds v os b =
    subst (λ (x : List Operand). AreBounds v x b) c.operands.ensures.value c.find_bounds.ensures in
    subst (λ (x : Vector). AreBounds x os c.as_slice.result.now) (sym c.encoded.ensures)
    (subst (λ (x : List Bounds). AreBounds v os x) (sym c.as_slice.ensures.value) known)

pub invariant_of-work : goal.invariant_of-work
invariant_of-work c = (
  let a = c.work.invariant.0 in let b = c.evaluate.ensures.found in omega arith,
  let a = c.work.invariant.1 in let b = c.evaluate.ensures.truths in omega arith,
  c.work.invariant.2,
  rows_kept _ _ _ _ _ c.work.invariant.3 c.evaluate.ensures.bit_sets,
)

pub returns-clause-meaning : goal.returns-clause-meaning
returns-clause-meaning c = subst (λ (v : Vector). IsTrue c.evaluate.result ↔ Holds c.args.query.now v) c.encoded.ensures
    c.evaluate.ensures.meaning
