use Rattle.std.proofs.Common.{◌≡◌, drop}
use Rattle.core_state.specs.Lives.{with_ends}
use Rattle.core_state.proofs.lives.note_ends.Given as goal

abbrev pub invariant-loop-name : goal.invariant-loop-name
invariant-loop-name l =
    with_ends l.commit l.placed (drop l.name-index l.names) l.ends ≡ with_ends l.commit l.placed l.names l.initial.ends
