use Rattle.std.proofs.Common.{arith}
use Rattle.std.proofs.lemmas.Result.{err_from_is_err_and}
use Rattle.ts_vector.specs.Decoded.{counted, of_length}
use Rattle.ts_vector.proofs.Decoding.{length_wrong, stops_short}
use Rattle.ts_vector.proofs.checker.length.Goals as goal
use Rattle.ts_vector.proofs.checker.length.Goals.{then-length-eq0-via-then-length-eq0}
use Rattle.ts_vector.proofs.checker.length.Goals.{then-length-eq0-via-else-length-eq0+then-length-gt-LONGEST_LEXEME}
use Rattle.ts_vector.proofs.checker.length.Goals.{
  then-length-eq0-via-else-length-eq0+else-length-gt-LONGEST_LEXEME+then-size-length-ge-SIZE_LIMIT,
}

pub returns-in_err-length-clause-err : goal.returns-in_err-length-clause-err
returns-in_err-length-clause-err c =
    let p = err_from_is_err_and c.from_residual.result c.from_residual.ensures.1 in
    rw (p.1, p.2) (λ n v lt size. stops_short (counted n v) 2 c.args.bytes.now
    (of_length n v lt) c.in_err-length.field-0.0 c.in_err-length.ensures.err)

pub returns-then-length-eq0-clause-err : goal.returns-then-length-eq0-clause-err
returns-then-length-eq0-clause-err c = λ n v lt size.
    length_wrong n v c.in_ok-length.length c.args.bytes.now c.in_ok-length.rest.now lt c.in_ok-length.ensures.fits
    c.in_ok-length.ensures.ok (λ some most small.
    elim c.then-length-eq0.branch [
      | then-length-eq0-via-then-length-eq0 w ↦ omega arith
      | then-length-eq0-via-else-length-eq0+then-length-gt-LONGEST_LEXEME w ↦ omega arith
      | then-length-eq0-via-else-length-eq0+else-length-gt-LONGEST_LEXEME+then-size-length-ge-SIZE_LIMIT w ↦ omega arith
    ])
