use Rattle.std.proofs.Common.{◌≡◌, ◌≤◌, map}
use Rattle.std.specs.Vec.{vec_capacity}
use Rattle.latch_table.specs.declared.slots.Slot.TheVariants.{Frame}
use Rattle.latch_table.proofs.laying.push_frames.Given as goal

abbrev pub invariant-loop-frame : goal.invariant-loop-frame
invariant-loop-frame g l = (l.slots.items ≡ map Frame l.yielded) × (vec_capacity l.initial.slots ≤ vec_capacity l.slots)
