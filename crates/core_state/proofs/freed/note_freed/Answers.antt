use Rattle.std.proofs.Common.{List, ℕ, ap, subst, sym, ◌∙◌}
use Rattle.core_state.specs.Inner.PageRooms.{room_rank, AreRooms}
use Rattle.core_state.proofs.PageRooms.{rooms_more}
use Rattle.core_state.proofs.freed.note_freed.Goals as goal

pub returns-clause-rooms : goal.returns-clause-rooms
returns-clause-rooms c =
    subst (λ (ps : List ℕ). AreRooms ps c.args.sizes.now c.set_rank.new.rooms) (sym c.note_page.ensures.pages)
    (rooms_more c.args.pages.now.items c.args.sizes.now c.args.rooms.now c.set_rank.new.rooms c.args.page
    c.requires.rooms_before (c.set_rank.ensures.here ∙ ap room_rank c.size_at.ensures) c.set_rank.ensures.others)
