use Rattle.std.proofs.Common.{◌≡◌, drop, length}
use Rattle.std.specs.Vec.{vec_capacity}
use Rattle.core_state.specs.States.{uses_after}
use Rattle.core_state.specs.Inner.Ranks.{AreRanks}
use Rattle.core_state.proofs.uses.note_uses.Given as goal

abbrev pub invariant-loop-change : goal.invariant-loop-change
invariant-loop-change l = record {
  items : uses_after l.number (drop l.change-index l.changes) l.uses.items ≡ uses_after l.number l.changes
      l.initial.uses.items;
  ranked : AreRanks l.uses.items l.ranks;
  room : vec_capacity l.uses ≡ vec_capacity l.initial.uses;
  size : length l.ranks ≡ length l.initial.ranks;
}
