use Rattle.std.proofs.Common.{refl}
use Rattle.std.proofs.lemmas.Result.{err_from_is_err_and}
use Rattle.page_code.specs.Fields.{key_at}
use Rattle.page_code.specs.Bodies.{keys_at}
use Rattle.page_code.proofs.Loops.{goes_on, ends, is_done}
use Rattle.page_code.proofs.pending.read_keys.Goals as goal

pub returns-in_err-key : goal.returns-in_err-key
returns-in_err-key c =
    let p = err_from_is_err_and c.from_residual.result c.from_residual.ensures.1 in
    rw (p.1, p.2) (ends (λ last _ rest. key_at last rest)
    (λ key. key) c.in_err-key.field-0.0 c.loop.last.now c.args.count c.loop.counter c.loop.keys c.loop.rest.now
    (keys_at c.args.count c.args.bytes.now) c.loop-test.true c.in_err-key.ensures c.loop.invariant)

pub loop-preserved : goal.loop-preserved
loop-preserved c =
    rw c.in_ok-push.ensures.ok
    (goes_on (λ last _ rest. key_at last rest) (λ key. key) c.loop.last.now c.in_ok-key.key.now
    c.args.count c.loop.counter c.loop.keys c.loop.rest.now c.in_ok-key.key.now c.in_ok-key.behind.now
    (keys_at c.args.count c.args.bytes.now) c.loop-test.true c.in_ok-key.ensures refl c.loop.invariant)

pub returns : goal.returns
returns c = is_done (λ last _ rest. key_at last rest) (λ key. key) c.loop.last.now c.args.count c.loop.counter
    c.loop.keys c.loop.rest.now (keys_at c.args.count c.args.bytes.now) c.loop-test.false c.loop.invariant
