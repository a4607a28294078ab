use Rattle.std.proofs.Common.{vec_len}
use Rattle.ts_match.specs.Inner.Heights.{SameBitSets}
use Rattle.ts_match.proofs.layout.free_all.Given as goal

abbrev pub invariant-loop-bits : goal.invariant-loop-bits
invariant-loop-bits l = SameBitSets l.initial.bit_sets.stack.items l.initial.bit_sets.spare.items l.bit_sets.stack.items
    l.bit_sets.spare.items

abbrev pub decreases-loop-bits : goal.decreases-loop-bits
decreases-loop-bits l = vec_len l.bit_sets.stack
