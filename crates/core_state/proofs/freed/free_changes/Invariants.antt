use Rattle.std.proofs.Common.{◌≡◌, ◌≤◌, ◌+◌, length, drop}
use Rattle.std.specs.Vec.{vec_capacity}
use Rattle.core_state.specs.Log.{pages_of}
use Rattle.core_state.specs.States.{with_pages}
use Rattle.core_state.specs.Inner.Rising.{AreRising}
use Rattle.core_state.specs.Inner.PageRooms.{AreRooms}
use Rattle.core_state.proofs.freed.free_changes.Given as goal

abbrev pub invariant-loop-change : goal.invariant-loop-change
invariant-loop-change l = record {
  pages : with_pages (pages_of (drop l.change-index l.changes)) l.pages.items ≡ with_pages
      (pages_of l.changes) l.initial.pages.items;
  rising : AreRising l.pages.items;
  rooms : AreRooms l.pages.items l.sizes l.rooms;
  room : vec_capacity l.pages ≡ vec_capacity l.initial.pages;
  more : length l.pages.items ≤ length l.initial.pages.items + l.change-index;
  size : length l.rooms ≡ length l.initial.rooms;
}
