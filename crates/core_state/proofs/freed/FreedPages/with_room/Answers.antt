use Rattle.std.proofs.Common.{◌≡◌, ◌≤◌, ℕ, List, ap, subst, ◌∙◌}
use Rattle.core_state.specs.PageChoice.{IsLeastIfAny}
use Rattle.core_state.specs.Inner.PageRooms.{FreedValue, HasRoomIn}
use Rattle.core_state.proofs.freed.FreedPages.with_room.Goals as goal

pub returns-clause-least : goal.returns-clause-least
returns-clause-least c =
    let pages : c.deref.result.now ≡ c.args.self.now.pages =
    c.deref.ensures.value ∙ ap (λ (v : FreedValue). v.pages) c.self.view_is in
    let sizes : c.deref-2.result.now ≡ c.args.self.now.sizes =
    c.deref-2.ensures.value ∙ ap (λ (v : FreedValue). v.sizes) c.self.view_is in
    subst (λ (ps : List ℕ). IsLeastIfAny
    (λ (p : ℕ). (c.args.from ≤ p) × HasRoomIn ps c.args.self.now.sizes c.args.bytes p) c.first_with_room.result) pages
    (subst (λ (ns : List ℕ). IsLeastIfAny
    (λ (p : ℕ). (c.args.from ≤ p) × HasRoomIn c.deref.result.now ns c.args.bytes p) c.first_with_room.result) sizes
    c.first_with_room.ensures.least)
