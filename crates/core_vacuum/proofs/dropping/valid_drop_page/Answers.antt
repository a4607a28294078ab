use Rattle.std.proofs.Common.{length, List, get_or, sym, ap, subst, ◌∙◌}
use Rattle.std.proofs.lemmas.Bool.{false≢true}
use Rattle.page_types.specs.Parts.{head_shown}
use Rattle.page_types.specs.declared.page.Page.{Page}
use Rattle.page_types.specs.declared.page.Head.{Head}
use Rattle.core_state.specs.Documents.{Doc}
use Rattle.core_state.specs.States.{known_by}
use Rattle.core_state.specs.Inner.HeadChanges.{LeavesInSlot}
use Rattle.core_vacuum.proofs.DroppedPages.{drop_told, drop_back, head_back, dead_back}
use Rattle.core_vacuum.proofs.DroppedPages.{drops_at, none_holds, same_page, same_then}
use Rattle.core_vacuum.proofs.LostChildren.{two_told}
use Rattle.core_vacuum.proofs.dropping.valid_drop_page.Goals as goal
use Rattle.core_vacuum.proofs.dropping.valid_drop_page.Goals.{then-page-eq0-via-then-page-eq0}
use Rattle.core_vacuum.proofs.dropping.valid_drop_page.Goals.{then-page-eq0-via-else-page-eq0+then-before-ne2}

pub returns-in_default-head_in : goal.returns-in_default-head_in
returns-in_default-head_in c =
    let k = known_by c.args.state.now.value in
    let r = c.args.rec.now in
    let n = c.name_of-name.result in
    let before = c.args.before.now in
    let after = c.args.after.now in
    let d : Doc = record { item = c.in-DropPage.item; serial = c.in-DropPage.serial } in (
      λ e. absurd (false≢true e),
      λ w.
          let p = drop_back c.args.floor k r d n before after c.name_of-name.ensures c.in-DropPage.is w in
          absurd (none_holds c.head_in.result c.in_default-head_in.not-Some c.head_in.ensures.none p.head
          (head_back c.args.floor k r n before after p c.index-before-0.result c.index-before-0.is)),
    )

pub returns-then-not-is_dead : goal.returns-then-not-is_dead
returns-then-not-is_dead c =
    let k = known_by c.args.state.now.value in
    let r = c.args.rec.now in
    let n = c.name_of-name.result in
    let before = c.args.before.now in
    let after = c.args.after.now in
    let d : Doc = record { item = c.in-DropPage.item; serial = c.in-DropPage.serial } in (
      λ e. absurd (false≢true e),
      λ w.
          let p = drop_back c.args.floor k r d n before after c.name_of-name.ensures c.in-DropPage.is w in
          sym c.if-not-is_dead.true ∙ c.is_dead.ensures.1
          (dead_back c.args.floor k r n before after p c.index-before-0.result (head_shown c.in-Some-head_in.head)
          c.index-before-0.is c.in-Some-head_in.ensures.some),
    )

pub returns-in_default-head_then : goal.returns-in_default-head_then
returns-in_default-head_then c =
    let k = known_by c.args.state.now.value in
    let r = c.args.rec.now in
    let n = c.name_of-name.result in
    let before = c.args.before.now in
    let after = c.args.after.now in
    let d : Doc = record { item = c.in-DropPage.item; serial = c.in-DropPage.serial } in (
      λ e. absurd (false≢true e),
      λ w.
          let p = drop_back c.args.floor k r d n before after c.name_of-name.ensures c.in-DropPage.is w in
          let at = drops_at c.args.floor k r n before after p c.in-Some.page c.index-before-0.result
          c.index-before-1.result p.heap c.index-after-1.result (head_shown c.in-Some-head_in.head)
          c.in-Some.ensures.some c.index-before-0.is c.index-before-1.is
          (sym (ap (λ (zs : List Page). get_or zs 0 p.heap) p.after_is)) c.index-after-1.is
          c.in-Some-head_in.ensures.some in
          absurd (none_holds c.head_then.result c.in_default-head_then.not-Some c.head_then.ensures.none at.then
          at.first),
    )

pub returns : goal.returns
returns c =
    let k = known_by c.args.state.now.value in
    let r = c.args.rec.now in
    let n = c.name_of-name.result in
    let before = c.args.before.now in
    let after = c.args.after.now in
    let old = c.index-before-0.result in
    let was = c.index-before-1.result in
    let heap = c.index-after-0.result in
    let left = c.index-after-1.result in
    let head : Head = head_shown c.in-Some-head_in.head in
    let then : Head = head_shown c.in-Some-head_then.then in
    let d : Doc = record { item = c.in-DropPage.item; serial = c.in-DropPage.serial } in (
      λ e. drop_told c.args.floor k r d n before after c.name_of-name.ensures c.in-DropPage.is (record {
        head = head;
        then = then;
        page = c.in-Some.page;
        old = old;
        was = was;
        heap = heap;
        left = left;
        pages = c.in-Some.ensures.some;
        before_is = two_told before old was c.if-before-ne2.false c.index-before-0.is c.index-before-1.is;
        after_is = two_told after heap left c.if-after-ne2.false c.index-after-0.is c.index-after-1.is;
        not_none = c.if-page-eq0.false;
        has = c.in-Some-head_in.ensures.some;
        dead = c.is_dead.ensures.0 c.if-not-is_dead.false;
        first = c.in-Some-head_then.ensures.some;
        leaves = c.leaves_in_slot.ensures.0 e;
      }),
      λ w.
          let p = drop_back c.args.floor k r d n before after c.name_of-name.ensures c.in-DropPage.is w in
          let at = drops_at c.args.floor k r n before after p c.in-Some.page old was heap left head
          c.in-Some.ensures.some c.index-before-0.is c.index-before-1.is c.index-after-0.is c.index-after-1.is
          c.in-Some-head_in.ensures.some in
          c.leaves_in_slot.ensures.1 (subst (λ (h : Head). LeavesInSlot r n.slot old h heap)
          (same_then r c.in-Some.page was left head at.then then at.first c.in-Some-head_then.ensures.some)
          at.leaves),
    )

pub returns-in_default : goal.returns-in_default
returns-in_default c = (
  λ e. absurd (false≢true e),
  λ w. absurd (c.in_default.not-DropPage w.doc.item w.doc.serial w.kind_is),
)

pub returns-in_default-second_page : goal.returns-in_default-second_page
returns-in_default-second_page c =
    let k = known_by c.args.state.now.value in
    let r = c.args.rec.now in
    let n = c.name_of-name.result in
    let d : Doc = record { item = c.in-DropPage.item; serial = c.in-DropPage.serial } in (
      λ e. absurd (false≢true e),
      λ w.
          let p = drop_back c.args.floor k r d n c.args.before.now c.args.after.now c.name_of-name.ensures
          c.in-DropPage.is w in
          absurd (none_holds c.second_page.result c.in_default-second_page.not-Some c.second_page.ensures.none p.page
          p.pages),
    )

pub returns-then-page-eq0 : goal.returns-then-page-eq0
returns-then-page-eq0 c =
    let k = known_by c.args.state.now.value in
    let r = c.args.rec.now in
    let n = c.name_of-name.result in
    let d : Doc = record { item = c.in-DropPage.item; serial = c.in-DropPage.serial } in (
      λ e. absurd (false≢true e),
      λ w.
          let p = drop_back c.args.floor k r d n c.args.before.now c.args.after.now c.name_of-name.ensures
          c.in-DropPage.is w in
          elim c.then-page-eq0.branch [
            | then-page-eq0-via-then-page-eq0 v ↦ absurd (p.not_none
                (same_page r n.page p.page c.in-Some.page p.pages c.in-Some.ensures.some ∙ v.if-page-eq0.true))
            | then-page-eq0-via-else-page-eq0+then-before-ne2 v ↦ absurd (v.if-before-ne2.true (ap length p.before_is))
            | goal.then-page-eq0-via-else-page-eq0+else-before-ne2+then-after-ne2 v ↦ absurd
                (v.if-after-ne2.true (ap length p.after_is))
          ],
    )
