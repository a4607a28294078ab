use Rattle.std.proofs.Common.{◌≡◌, ◌-◌, ℕ}
use Rattle.page_code.specs.Fields.{each_at}
use Rattle.page_code.specs.Bodies.{row_at, rows_at}
use Rattle.page_code.proofs.pending.read_rows.Given as goal

abbrev pub invariant-loop : goal.invariant-loop
invariant-loop l =
    each_at {M = ℕ} (λ _ _ rest. row_at rest) (λ _. 0) 0 (l.count - l.counter) l.rows l.rest ≡ rows_at l.count l.bytes
