use Rattle.std.proofs.Common.{◌≡◌, ◌≤◌, ℕ, min, length, List, All, ap, sym, subst, arith}
use Rattle.std.proofs.lemmas.Bool.{false≢true}
use Rattle.std.specs.Vec.{vec_capacity}
use Rattle.page_types.specs.Numbers.{page_limit}
use Rattle.page_types.specs.declared.record.Change.{Change}
use Rattle.core_state.specs.Rooms.{InMemory}
use Rattle.core_state.proofs.UseSteps.{EndsAbove}
use Rattle.core_state.proofs.state.State.make_room_for_pages.Goals as goal

-- the least end is within the room that there is for each change
within : (room end : ℕ) (cs ds : List Change) → ds ≡ cs → ((most : ℕ) → All (EndsAbove most) ds → end ≤ most)
    → All (EndsAbove room) cs → end ≤ room
within room end cs ds same least all = least room (subst (λ (es : List Change). All (EndsAbove room) es) (sym same) all)

pub reserve-requires-2 : goal.reserve-requires-2
reserve-requires-2 c = c.pages_end-end.ensures.least page_limit (λ k d l p. p)

pub make_room_for_pages-requires : goal.make_room_for_pages-requires
make_room_for_pages-requires c = c.pages_end-end.ensures.least page_limit (λ k d l p. p)

pub returns-in_err-reserve-clause-ok : goal.returns-in_err-reserve-clause-ok
returns-in_err-reserve-clause-ok c = λ h.
    let end = within c.args.self.now.room.pages c.pages_end-end.result c.args.rec.now.changes
    c.as_slice-changes.result.now c.as_slice-changes.ensures c.pages_end-end.ensures.least h in
    let pages : min (min (vec_capacity c.self.inside.uses) (length c.self.inside.ranks))
    c.self.inside.table.room.pages ≡ c.args.self.now.room.pages = ap (λ (k : InMemory). k.room.pages) c.self.view_is in
    absurd (omega (
      arith,
      end,
      pages,
      c.in_err-reserve.ensures.full,
      c.saturating_sub-more.ensures,
      c.len.ensures,
      c.self.inside.uses.ok.1,
    ))

pub returns-in_err-reserve-2-clause-ok : goal.returns-in_err-reserve-2-clause-ok
returns-in_err-reserve-2-clause-ok c = λ h.
    let end = within c.args.self.now.room.pages c.pages_end-end.result c.args.rec.now.changes
    c.as_slice-changes.result.now c.as_slice-changes.ensures c.pages_end-end.ensures.least h in
    let pages : min (min (vec_capacity c.self.inside.uses) (length c.self.inside.ranks))
    c.self.inside.table.room.pages ≡ c.args.self.now.room.pages = ap (λ (k : InMemory). k.room.pages) c.self.view_is in
    absurd (false≢true (c.in_err-reserve-2.ensures.ok (omega (arith, end, pages))))

pub returns-clause-ok : goal.returns-clause-ok
returns-clause-ok c = λ h.
    let end = within c.args.self.now.room.pages c.pages_end-end.result c.args.rec.now.changes
    c.as_slice-changes.result.now c.as_slice-changes.ensures c.pages_end-end.ensures.least h in
    let pages : min (min (vec_capacity c.self.inside.uses) (length c.self.inside.ranks))
    c.self.inside.table.room.pages ≡ c.args.self.now.room.pages = ap (λ (k : InMemory). k.room.pages) c.self.view_is in
    c.make_room_for_pages.ensures.ok (omega (arith, end, pages))
