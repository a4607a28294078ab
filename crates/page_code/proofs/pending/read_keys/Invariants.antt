use Rattle.std.proofs.Common.{◌≡◌, ◌-◌}
use Rattle.page_code.specs.Fields.{key_at, each_at}
use Rattle.page_code.specs.Bodies.{keys_at}
use Rattle.page_code.proofs.pending.read_keys.Given as goal

abbrev pub invariant-loop : goal.invariant-loop
invariant-loop l = each_at (λ last _ rest. key_at last rest) (λ key. key) l.last (l.count - l.counter) l.keys l.rest
    ≡ keys_at l.count l.bytes
