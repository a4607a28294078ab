use Rattle.std.proofs.Common.{◌≡◌, ℕ, List, drop, length}
use Rattle.std.specs.Vec.{vec_capacity}
use Rattle.core_state.specs.States.{sizes_after}
use Rattle.core_state.specs.Inner.PageRooms.{AreRooms}
use Rattle.core_state.proofs.freed.note_changes.Given as goal

abbrev pub invariant-loop-change : goal.invariant-loop-change
invariant-loop-change l = record {
  items : sizes_after (drop l.change-index l.changes) l.sizes.items ≡ sizes_after l.changes l.initial.sizes.items;
  rooms : (ps : List ℕ) → AreRooms ps l.initial.sizes.items l.initial.rooms → AreRooms ps l.sizes.items l.rooms;
  room : vec_capacity l.sizes ≡ vec_capacity l.initial.sizes;
  size : length l.rooms ≡ length l.initial.rooms;
}
