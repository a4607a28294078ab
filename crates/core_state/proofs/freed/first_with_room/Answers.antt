use Rattle.std.proofs.Common.{◌≤◌, ℕ, subst, sym, arith}
use Rattle.core_state.specs.PageChoice.{IsLeastIfAny}
use Rattle.core_state.specs.Inner.PageRooms.{HasRoomIn}
use Rattle.core_state.proofs.RisingPages.{place_at_most}
use Rattle.core_state.proofs.PageRooms.{none_reaches, has_place, first_place}
use Rattle.core_state.proofs.freed.first_with_room.Goals as goal

pub returns-in_err-page-clause-least : goal.returns-in_err-page-clause-least
returns-in_err-page-clause-least c =
    subst (IsLeastIfAny
    (λ (p : ℕ). (c.args.from ≤ p) × HasRoomIn c.args.pages.now c.args.sizes.now c.args.bytes p))
    (sym c.from_residual-in_err-page.ensures)
    (none_reaches c.args.pages.now c.args.sizes.now c.args.rooms.now c.args.from c.in_ok-first.first c.args.bytes
    c.requires.rising c.requires.rooms (sym c.in_ok-first.ensures) c.in_err-page.ensures.least)

pub place_of-requires-clause-there : goal.place_of-requires-clause-there
place_of-requires-clause-there c =
    has_place c.args.pages.now c.args.sizes.now c.args.rooms.now c.args.bytes c.in_ok-page.page c.requires.rooms
    c.in_ok-page.ensures.least.holds.1

pub returns-clause-least : goal.returns-clause-least
returns-clause-least c =
    first_place c.args.pages.now c.args.sizes.now c.args.rooms.now c.args.from c.in_ok-first.first c.args.bytes
    c.in_ok-page.page c.place_of.result c.requires.rising c.requires.rooms (sym c.in_ok-first.ensures)
    c.in_ok-page.ensures.least c.place_of.ensures.within c.place_of.ensures.page

pub returns-clause-small : goal.returns-clause-small
returns-clause-small c =
    let low = place_at_most c.args.pages.now c.requires.rising c.place_of.result
    c.place_of.ensures.within in
    omega (arith, low, c.place_of.ensures.page, c.in_ok-page.ensures.small)
