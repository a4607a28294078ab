use Rattle.std.proofs.Common.{◌≡◌, ◌-◌, ℕ}
use Rattle.page_code.specs.Fields.{each_at}
use Rattle.page_code.specs.Bodies.{heap_slot_at, slots_at}
use Rattle.page_code.proofs.heap.read_slots.Given as goal

abbrev pub invariant-loop : goal.invariant-loop
invariant-loop l = each_at {M = ℕ} (λ _ _ rest. heap_slot_at rest) (λ _. 0) 0 (l.count - l.counter) l.slots l.rest
    ≡ slots_at l.count l.bytes
