use Rattle.std.proofs.Common.{refl}
use Rattle.std.proofs.lemmas.Result.{err_from_is_err_and}
use Rattle.page_types.specs.Parts.{entry_shown}
use Rattle.page_code.specs.Bodies.{entry_at, entries_at}
use Rattle.page_code.proofs.Loops.{goes_on, ends, is_done}
use Rattle.page_code.proofs.entries.read_entries.Goals as goal

pub returns-in_err-entry : goal.returns-in_err-entry
returns-in_err-entry c =
    let p = err_from_is_err_and c.from_residual-in_err-entry.result c.from_residual-in_err-entry.ensures.1 in
    rw (p.1, p.2) (ends (λ last _ rest. entry_at last rest)
    (λ e. e.key) c.in_err-entry.field-0.0 c.loop.last.now c.args.count c.loop.counter c.loop.entries c.loop.rest.now
    (entries_at c.args.count c.args.bytes.now) c.loop-test.true c.in_err-entry.ensures c.loop.invariant)

pub loop-preserved : goal.loop-preserved
loop-preserved c =
    rw c.in_ok-push.ensures.ok (goes_on (λ last _ rest. entry_at last rest)
    (λ e. e.key) c.loop.last.now c.in_ok-entry.entry.key.now c.args.count c.loop.counter
    c.loop.entries c.loop.rest.now (entry_shown c.in_ok-entry.entry) c.in_ok-entry.behind.now
    (entries_at c.args.count c.args.bytes.now) c.loop-test.true c.in_ok-entry.ensures refl c.loop.invariant)

pub returns : goal.returns
returns c = is_done (λ last _ rest. entry_at last rest) (λ e. e.key) c.loop.last.now c.args.count c.loop.counter
    c.loop.entries c.loop.rest.now (entries_at c.args.count c.args.bytes.now) c.loop-test.false c.loop.invariant
