use Rattle.std.proofs.Common.{ℕ, refl}
use Rattle.std.proofs.lemmas.Result.{err_from_is_err_and}
use Rattle.page_code.specs.Bodies.{row_at, rows_at}
use Rattle.page_code.proofs.Loops.{goes_on, ends, is_done}
use Rattle.page_code.proofs.pending.read_rows.Goals as goal

pub returns-in_err-item : goal.returns-in_err-item
returns-in_err-item c =
    let p = err_from_is_err_and c.from_residual.result c.from_residual.ensures.1 in
    rw (p.1, p.2)
    (ends (λ (_ : ℕ) _ rest. row_at rest) (λ _. 0) c.in_err-item.field-0.0 0 c.args.count c.loop.counter c.loop.rows
    c.loop.rest.now (rows_at c.args.count c.args.bytes.now) c.loop-test.true c.in_err-item.ensures c.loop.invariant)

pub loop-preserved : goal.loop-preserved
loop-preserved c =
    rw c.in_ok-push.ensures.ok (goes_on (λ (_ : ℕ) _ rest. row_at rest)
    (λ _. 0) 0 0 c.args.count c.loop.counter c.loop.rows c.loop.rest.now (record {
      item = c.in_ok-item.item;
      keys = c.read_row.new.keys;
    }) c.in_ok-item.behind.now (rows_at c.args.count c.args.bytes.now) c.loop-test.true c.in_ok-item.ensures refl
    c.loop.invariant)

pub returns : goal.returns
returns c = is_done (λ (_ : ℕ) _ rest. row_at rest) (λ _. 0) 0 c.args.count c.loop.counter c.loop.rows c.loop.rest.now
    (rows_at c.args.count c.args.bytes.now) c.loop-test.false c.loop.invariant
