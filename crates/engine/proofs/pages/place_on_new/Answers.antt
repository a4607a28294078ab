-- A new page always has room.
use Rattle.engine.proofs.Choosing.{new_has_room}
use Rattle.engine.proofs.pages.place_on_new.Goals as goal

pub unreachable-requires : goal.unreachable-requires
unreachable-requires c =
    new_has_room c.args.page.now c.args.head.now c.requires.is_new c.requires.head
    ((c.in_ok-placed.ensures.full).0 c.in-None.is)
