use Rattle.std.proofs.lemmas.Bool.{false≢true}
use Rattle.core_state.specs.States.{known_by}
use Rattle.core_vacuum.proofs.LeftPages.{no_slots, no_slots_then, slots_link, slots_stamp, slots_left, slots_go}
use Rattle.core_vacuum.proofs.freeing.leaves_slots.Goals as goal
use Rattle.core_vacuum.proofs.freeing.leaves_slots.Goals.{then-new-old-via-then-new-old}
use Rattle.core_vacuum.proofs.freeing.leaves_slots.Goals.{then-new-old-via-else-new-old+then-new-rec}

pub returns-in_default : goal.returns-in_default
returns-in_default c = (
  λ e. absurd (false≢true e),
  λ w. absurd (no_slots (known_by c.args.state.now.value) c.args.floor c.args.rec.now c.args.old.now c.args.new.now
      c.in_default.not-Heap w),
)

pub returns-in_default-body : goal.returns-in_default-body
returns-in_default-body c = (
  λ e. absurd (false≢true e),
  λ w. absurd (no_slots_then (known_by c.args.state.now.value) c.args.floor c.args.rec.now c.args.old.now c.args.new.now
      c.in_default-body.not-Heap w),
)

pub returns-then-new-old : goal.returns-then-new-old
returns-then-new-old c = (
  λ e. absurd (false≢true e),
  λ w. elim c.then-new-old.branch [
    | then-new-old-via-then-new-old v ↦ absurd
        (v.if-new-old.true (slots_link
        (known_by c.args.state.now.value) c.args.floor c.args.rec.now c.args.old.now c.args.new.now w))
    | then-new-old-via-else-new-old+then-new-rec v ↦ absurd
        (v.if-new-rec.true (slots_stamp
        (known_by c.args.state.now.value) c.args.floor c.args.rec.now c.args.old.now c.args.new.now w))
  ],
)

pub returns : goal.returns
returns c = (
  λ e. slots_left (known_by c.args.state.now.value) c.args.floor c.args.rec.now c.args.old.now c.args.new.now
      c.in-Heap.slots c.in-Heap-body.new_slots c.in-Heap.is c.in-Heap-body.is c.if-new-old.false c.if-new-rec.false
      (c.slots_go.ensures.0 e),
  λ w. c.slots_go.ensures.1
      (slots_go (known_by c.args.state.now.value) c.args.floor c.args.rec.now c.args.old.now c.args.new.now
      c.in-Heap.slots c.in-Heap-body.new_slots c.in-Heap.is c.in-Heap-body.is w),
)
