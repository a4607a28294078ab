use Rattle.std.proofs.Common.{arith, ◌≡◌, ◌≢◌, [], ◌∷◌, ◌++◌, length, refl, ap, sym, subst, length-append}
use Rattle.std.proofs.lemmas.List.{nil_from_length}
use Rattle.std.proofs.lemmas.Result.{err_from_is_err_and}
use Rattle.std.proofs.lemmas.Bool.{eqb-true, eqb-false}
use Rattle.ts_vector.specs.Decoded.{ReadsFields, start, counted, begun}
use Rattle.ts_vector.proofs.Decoding.{count_short, count_goes, bytes_stop, surplus, whole_encoding, none_front}
use Rattle.ts_vector.proofs.Decoding.{same_entries}
use Rattle.ts_vector.proofs.checker.checked.Goals as goal

pub returns-in_err-count-clause-err : goal.returns-in_err-count-clause-err
returns-in_err-count-clause-err c =
    let p = err_from_is_err_and c.from_residual.result c.from_residual.ensures.1 in
    rw (p.1, p.2) (bytes_stop c.args.bytes.now start c.args.bytes.now begun c.in_err-count.field-0.0
    (count_short c.args.bytes.now c.in_err-count.field-0.0 c.in_err-count.ensures.err))

pub loop-init : goal.loop-init
loop-init c =
    let n = c.in_ok-count.count in
    let first = count_goes n [] c.args.bytes.now c.in_ok-count.entries.now c.in_ok-count.ensures.fits
    c.in_ok-count.ensures.ok in
    ([], refl, none_front _ refl refl, omega arith, first.on c.args.bytes.now begun, omega arith)

pub returns-in_err-front-clause-err : goal.returns-in_err-front-clause-err
returns-in_err-front-clause-err c =
    let is = c.loop.invariant in
    let n = c.in_ok-count.count in
    let p = err_from_is_err_and c.from_residual-in_err-front.result c.from_residual-in_err-front.ensures.1 in
    rw (p.1, p.2) (bytes_stop c.args.bytes.now (counted n is.0) c.loop.rest.now is.4 c.in_err-front.field-0.0
    (c.in_err-front.ensures.err n is.0 (omega (arith, is.1)) is.2))

pub loop-preserved : goal.loop-preserved
loop-preserved c =
    let is = c.loop.invariant in
    let n = c.in_ok-count.count in
    let next = c.in_ok-front.ensures.ok n is.0 (omega (arith, is.1)) is.2 in (
      is.0 ++ next.0 ∷ [],
      omega (arith, is.1, length-append is.0 (next.0 ∷ [])),
      next.2,
      c.in_ok-front.ensures.small,
      next.1.on c.args.bytes.now is.4,
      c.in_ok-front.ensures.few,
    )

pub returns-then-not-is_empty-clause-err : goal.returns-then-not-is_empty-clause-err
returns-then-not-is_empty-clause-err c =
    let is = c.loop.invariant in
    let n = c.in_ok-count.count in
    let rest = c.loop.rest.now in
    let more : rest ≢ [] = λ e. eqb-false (length rest) 0 (sym c.if-not-is_empty.ensures) (ap length e) in
    bytes_stop c.args.bytes.now (counted n is.0) rest is.4 (record { left = length rest })
    (surplus n is.0 rest (omega (arith, is.1)) more)

pub returns-clause-ok : goal.returns-clause-ok
returns-clause-ok c =
    let is = c.loop.invariant in
    let n = c.in_ok-count.count in
    let none : c.loop.rest.now ≡ [] =
    nil_from_length c.loop.rest.now (eqb-true (length c.loop.rest.now) 0 (sym c.if-not-is_empty.ensures)) in
    let whole : length is.0 ≡ n = omega (arith, is.1) in
    let encoding = whole_encoding c.args.bytes.now n is.0
    (subst (λ r. ReadsFields c.args.bytes.now (counted n is.0) r) none is.4) whole in (
      is.0,
      encoding,
      whole,
      same_entries c.args.bytes.now n c.in_ok-count.entries.now is.0 whole c.in_ok-count.ensures.ok encoding,
    )
