use Rattle.std.proofs.Common.{◌≡◌, ◌-◌}
use Rattle.page_code.specs.Fields.{each_at}
use Rattle.page_code.specs.Bodies.{entry_at, entries_at}
use Rattle.page_code.proofs.entries.read_entries.Given as goal

abbrev pub invariant-loop : goal.invariant-loop
invariant-loop l = each_at (λ last _ rest. entry_at last rest) (λ e. e.key) l.last
    (l.count - l.counter) l.entries l.rest ≡ entries_at l.count l.bytes
