use Rattle.page_types.specs.Parts.{head_shown}
use Rattle.core_state.specs.Documents.{Doc}
use Rattle.core_state.specs.States.{known_by}
use Rattle.core_state.proofs.HeadChanges.{no_head}
use Rattle.core_state.proofs.LinkedHeads.{link_told, link_has, link_back, link_left}
use Rattle.core_state.proofs.linking.valid_link_pending.Goals as goal

pub returns-in_default-head_in : goal.returns-in_default-head_in
returns-in_default-head_in c =
    let d : Doc = record { item = c.in-LinkPending.item; serial = c.in-LinkPending.serial } in
    let known = known_by c.args.state.now.value in (
      λ e. absurd (cc),
      λ w.
          let h = link_has known c.args.rec.now d c.name_of-name.result c.args.before.now c.args.after.now
          c.index-before-0.result c.name_of-name.ensures c.in-LinkPending.is c.index-before-0.is w in
          absurd (no_head c.head_in.result c.index-before-0.result c.name_of-name.result
          c.in_default-head_in.not-Some c.head_in.ensures.none h.0 h.1),
    )

pub returns : goal.returns
returns c =
    let d : Doc = record { item = c.in-LinkPending.item; serial = c.in-LinkPending.serial } in
    let known = known_by c.args.state.now.value in (
      λ e. link_told known c.args.rec.now d c.name_of-name.result c.args.before.now c.args.after.now
          c.index-before-0.result c.index-after-0.result (head_shown c.in-Some.head) c.name_of-name.ensures
          c.in-LinkPending.is c.index-before-0.is c.index-after-0.is
          (record {
            some_page = c.if-head-eq0.false;
            placed = c.is_placed_by.ensures.0 c.if-not-is_placed_by.false;
            list = c.links_list.ensures.0 c.if-not-links_list.false;
            has = c.in-Some.ensures.some;
            leaves = c.leaves_in_slot.ensures.0 e;
          }),
      λ w.
          let g = link_back known c.args.rec.now d c.name_of-name.result c.args.before.now c.args.after.now
          c.index-before-0.result c.index-after-0.result c.name_of-name.ensures c.in-LinkPending.is
          c.index-before-0.is c.index-after-0.is w in
          c.leaves_in_slot.ensures.1 (link_left known c.args.rec.now c.name_of-name.result c.args.before.now
          c.args.after.now c.index-before-0.result c.index-after-0.result g.0 (head_shown c.in-Some.head) g.1
          c.in-Some.ensures.some).leaves,
    )
