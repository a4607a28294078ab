use Rattle.std.proofs.Common.{arith}
use Rattle.std.proofs.lemmas.Result.{err_from_is_err_and}
use Rattle.ts_vector.specs.Decoded.{named, of_number}
use Rattle.ts_vector.proofs.Decoding.{number_wrong, stops_short}
use Rattle.ts_vector.proofs.checker.number.Goals as goal
use Rattle.ts_vector.proofs.checker.number.Goals.{then-number-gt-MOST_POSITIONS-via-then-number-gt-MOST_POSITIONS}
use Rattle.ts_vector.proofs.checker.number.Goals.{
  then-number-gt-MOST_POSITIONS-via-else-number-gt-MOST_POSITIONS+then-size-number-ge-SIZE_LIMIT,
}

pub returns-in_err-number-clause-err : goal.returns-in_err-number-clause-err
returns-in_err-number-clause-err c =
    let p = err_from_is_err_and c.from_residual.result c.from_residual.ensures.1 in
    rw (p.1, p.2) (λ n v l size. stops_short (named n v l) 2 c.args.bytes.now
    (of_number n v l) c.in_err-number.field-0.0 c.in_err-number.ensures.err)

pub returns-then-number-gt-MOST_POSITIONS-clause-err : goal.returns-then-number-gt-MOST_POSITIONS-clause-err
returns-then-number-gt-MOST_POSITIONS-clause-err c = λ n v l size.
    number_wrong n v l c.in_ok-number.number c.args.bytes.now c.in_ok-number.rest.now c.in_ok-number.ensures.ok
    c.in_ok-number.ensures.fits (λ few small.
    elim c.then-number-gt-MOST_POSITIONS.branch [
      | then-number-gt-MOST_POSITIONS-via-then-number-gt-MOST_POSITIONS w ↦ omega arith
      | then-number-gt-MOST_POSITIONS-via-else-number-gt-MOST_POSITIONS+then-size-number-ge-SIZE_LIMIT w ↦ omega arith
    ])
