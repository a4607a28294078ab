use Rattle.std.proofs.Common.{◌≡◌, ◌++◌, replicate}
use Rattle.std.specs.Vec.{vec_capacity}
use Rattle.core_state.specs.declared.answers.PageUse.TheVariants as usage
use Rattle.core_state.proofs.uses.note_use.Given as goal

abbrev pub invariant-loop-added : goal.invariant-loop-added
invariant-loop-added l = (l.uses.items ≡ l.initial.uses.items ++ replicate l.added usage.Unused)
    × (vec_capacity l.uses ≡ vec_capacity l.initial.uses)
