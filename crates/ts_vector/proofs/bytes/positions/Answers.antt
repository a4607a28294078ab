use Rattle.std.proofs.Common.{arith, [], refl}
use Rattle.std.proofs.lemmas.Result.{err_from_is_err_and}
use Rattle.ts_vector.proofs.Decoding.{lists_none, none_rise, last_none, lists_short, lists_next, lists_wrong}
use Rattle.ts_vector.proofs.bytes.positions.Goals as goal

pub loop-init : goal.loop-init
loop-init c = ([], refl, none_rise, lists_none c.args.count c.args.bytes.now, last_none)

pub returns-in_err-number-clause-err : goal.returns-in_err-number-clause-err
returns-in_err-number-clause-err c =
    let is = c.loop.invariant in
    let p = err_from_is_err_and c.from_residual.result c.from_residual.ensures.1 in
    rw (p.1, p.2) (lists_short c.args.count c.args.bytes.now c.loop.rest.now is.0 c.in_err-number.field-0.0 is.3
    (omega (arith, is.1)) c.in_err-number.ensures.err)

pub returns-then-at-last-clause-err : goal.returns-then-at-last-clause-err
returns-then-at-last-clause-err c =
    let is = c.loop.invariant in
    lists_wrong c.args.count c.args.bytes.now c.loop.rest.now c.in_ok-number.after.now is.0 c.loop.last
    c.in_ok-number.number is.3 (omega (arith, is.1)) is.4 c.in_ok-number.ensures.ok c.in_ok-number.ensures.fits
    (omega arith)

pub loop-preserved : goal.loop-preserved
loop-preserved c =
    let is = c.loop.invariant in
    let next = lists_next c.args.count c.args.bytes.now c.loop.rest.now c.in_ok-number.after.now is.0 c.loop.last
    c.in_ok-number.number is.3 is.2 (omega (arith, is.1)) is.4 c.in_ok-number.ensures.ok c.in_ok-number.ensures.fits
    (omega arith) in
    (next.0, omega (arith, next.1, is.1), next.2, next.3, next.4)

pub returns-clause-ok : goal.returns-clause-ok
returns-clause-ok c = let is = c.loop.invariant in (is.0, omega (arith, is.1), is.2, is.3)
