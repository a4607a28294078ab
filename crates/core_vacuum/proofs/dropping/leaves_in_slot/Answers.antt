use Rattle.std.proofs.lemmas.Bool.{false≢true}
use Rattle.page_types.specs.Parts.{head_shown}
use Rattle.core_vacuum.proofs.LeftPages.{no_slot, no_slot_then, slot_link, slot_stamp, slot_left, slot_put}
use Rattle.core_vacuum.proofs.dropping.leaves_in_slot.Goals as goal
use Rattle.core_vacuum.proofs.dropping.leaves_in_slot.Goals.{then-new-old-via-then-new-old}
use Rattle.core_vacuum.proofs.dropping.leaves_in_slot.Goals.{then-new-old-via-else-new-old+then-new-rec}

pub returns-in_default : goal.returns-in_default
returns-in_default c = (
  λ e. absurd (false≢true e),
  λ w. absurd (no_slot c.args.rec.now c.args.slot c.args.old.now
      (head_shown c.args.head) c.args.new.now c.in_default.not-Heap w),
)

pub returns-in_default-body : goal.returns-in_default-body
returns-in_default-body c = (
  λ e. absurd (false≢true e),
  λ w. absurd (no_slot_then c.args.rec.now c.args.slot c.args.old.now
      (head_shown c.args.head) c.args.new.now c.in_default-body.not-Heap w),
)

pub returns-then-new-old : goal.returns-then-new-old
returns-then-new-old c = (
  λ e. absurd (false≢true e),
  λ w. elim c.then-new-old.branch [
    | then-new-old-via-then-new-old v ↦ absurd
        (v.if-new-old.true (slot_link c.args.rec.now c.args.slot c.args.old.now
        (head_shown c.args.head) c.args.new.now w))
    | then-new-old-via-else-new-old+then-new-rec v ↦ absurd
        (v.if-new-rec.true (slot_stamp c.args.rec.now c.args.slot c.args.old.now
        (head_shown c.args.head) c.args.new.now w))
  ],
)

pub returns : goal.returns
returns c = (
  λ e. slot_left c.args.rec.now c.args.slot c.args.old.now (head_shown c.args.head) c.args.new.now
      c.in-Heap.slots c.in-Heap-body.new_slots c.in-Heap.is c.in-Heap-body.is c.if-new-old.false c.if-new-rec.false
      (c.puts_head.ensures.0 e),
  λ w. c.puts_head.ensures.1 (slot_put c.args.rec.now c.args.slot c.args.old.now (head_shown c.args.head) c.args.new.now
      c.in-Heap.slots c.in-Heap-body.new_slots c.in-Heap.is c.in-Heap-body.is w),
)
