use Rattle.std.proofs.Common.{◌≡◌, List, map, length}
use Rattle.latch_table.specs.declared.slots.Slot.TheVariants.{Frame}
use Rattle.latch_table.proofs.laying.drop_frames.Given as goal

abbrev pub invariant-loop-slot : goal.invariant-loop-slot
invariant-loop-slot g l = (frames : List g.row.F.Denot) × (l.slots.items ≡ map Frame frames)

abbrev pub decreases-loop-slot : goal.decreases-loop-slot
decreases-loop-slot g l = length l.slots.items
