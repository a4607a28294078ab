use Rattle.std.proofs.Common.{ℕ, refl}
use Rattle.std.specs.Option.{option_map}
use Rattle.std.proofs.lemmas.Result.{err_from_is_err_and}
use Rattle.page_types.specs.Parts.{head_shown}
use Rattle.page_code.specs.Bodies.{heap_slot_at, slots_at}
use Rattle.page_code.proofs.Loops.{goes_on, ends, is_done}
use Rattle.page_code.proofs.heap.read_slots.Goals as goal

pub returns-in_err-slot : goal.returns-in_err-slot
returns-in_err-slot c =
    let p = err_from_is_err_and c.from_residual.result c.from_residual.ensures.1 in
    rw (p.1, p.2) (ends (λ (_ : ℕ) _ rest. heap_slot_at rest)
    (λ _. 0) c.in_err-slot.field-0.0 0 c.args.count c.loop.counter c.loop.slots c.loop.rest.now
    (slots_at c.args.count c.args.bytes.now) c.loop-test.true c.in_err-slot.ensures c.loop.invariant)

pub loop-preserved : goal.loop-preserved
loop-preserved c =
    rw c.in_ok-push.ensures.ok (goes_on (λ (_ : ℕ) _ rest. heap_slot_at rest) (λ _. 0) 0 0 c.args.count
    c.loop.counter c.loop.slots c.loop.rest.now (option_map head_shown c.in_ok-slot.slot) c.in_ok-slot.behind.now
    (slots_at c.args.count c.args.bytes.now) c.loop-test.true c.in_ok-slot.ensures refl c.loop.invariant)

pub returns : goal.returns
returns c = is_done (λ (_ : ℕ) _ rest. heap_slot_at rest) (λ _. 0) 0 c.args.count c.loop.counter c.loop.slots
    c.loop.rest.now (slots_at c.args.count c.args.bytes.now) c.loop-test.false c.loop.invariant
