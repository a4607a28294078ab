use Rattle.std.proofs.Common.{[]}
use Rattle.std.proofs.lemmas.Result.{err_from_is_err_and}
use Rattle.record_code.specs.Reading.{changes_at}
use Rattle.record_code.proofs.Loop.{goes_on, ends, is_done}
use Rattle.record_code.proofs.records.changes_of.Goals as goal

pub returns-in_err-change : goal.returns-in_err-change
returns-in_err-change c =
    let p = err_from_is_err_and c.from_residual.result c.from_residual.ensures.1 in
    let failed = rw c.as_slice.ensures at c.in_err-change.ensures in
    rw (p.1, p.2)
    (ends c.in_err-change.field-0.0 c.args.number c.args.count c.loop.counter c.loop.changes c.loop.rest.now
    (changes_at c.args.number c.args.count [] c.args.bytes.now) c.loop-test.true failed c.loop.invariant)

pub loop-preserved : goal.loop-preserved
loop-preserved c =
    let read = rw c.as_slice.ensures at c.in_ok-change.ensures in
    rw c.in_ok-push.ensures.ok (goes_on c.args.number c.args.count c.loop.counter
    c.loop.changes c.loop.rest.now c.in_ok-change.change c.in_ok-change.behind.now
    (changes_at c.args.number c.args.count [] c.args.bytes.now) c.loop-test.true read c.loop.invariant)

pub returns : goal.returns
returns c = is_done c.args.number c.args.count c.loop.counter c.loop.changes c.loop.rest.now
    (changes_at c.args.number c.args.count [] c.args.bytes.now) c.loop-test.false c.loop.invariant
