use Rattle.std.proofs.Common.{◌≡◌, subst, arith}
use Rattle.page_types.specs.Parts.{head_shown}
use Rattle.page_types.specs.declared.page.Page.{Page}
use Rattle.core_state.specs.Documents.{Doc}
use Rattle.core_state.specs.States.{known_by, fate_of}
use Rattle.core_state.specs.Inner.HeadChanges.{HasHead}
use Rattle.core_state.specs.declared.answers.Fate.TheVariants.{Running}
use Rattle.core_state.proofs.PlacedHeads.{one_told, one_back}
use Rattle.core_state.proofs.HeadChanges.{MarkParts, mark_told, mark_back, mark_left, no_head}
use Rattle.core_state.proofs.marking.valid_mark_deleted.Goals as goal

pub returns-in_default-head_in : goal.returns-in_default-head_in
returns-in_default-head_in c =
    let d : Doc = record { item = c.in-MarkDeleted.item; serial = c.in-MarkDeleted.serial } in
    let known = known_by c.args.state.now.value in (
      λ e. absurd (cc),
      λ w.
          let p : MarkParts known c.args.rec.now c.name_of-name.result c.args.before.now c.args.after.now = mark_back
          known c.args.rec.now d c.name_of-name.result c.args.before.now c.args.after.now c.name_of-name.ensures
          c.in-MarkDeleted.is w in
          absurd (no_head c.head_in.result c.index-before-0.result c.name_of-name.result
          c.in_default-head_in.not-Some c.head_in.ensures.none p.head
          (subst (λ (x : Page). HasHead x c.name_of-name.result p.head)
          (one_back c.args.before.now c.index-before-0.result p.old p.before_is c.index-before-0.is) p.has)),
    )

pub returns : goal.returns
returns c =
    let d : Doc = record { item = c.in-MarkDeleted.item; serial = c.in-MarkDeleted.serial } in
    let known = known_by c.args.state.now.value in
    let runs : fate_of c.args.state.now.value c.args.rec.now.xid ≡ Running = cc in (
      λ e. mark_told known c.args.rec.now d c.name_of-name.result c.args.before.now c.args.after.now
          c.name_of-name.ensures c.in-MarkDeleted.is
          (record {
            head = head_shown c.in-Some.head;
            old = c.index-before-0.result;
            new = c.index-after-0.result;
            pages = c.changes_pages.ensures.0 c.if-not-changes_pages.false;
            runs = runs;
            before_is = one_told c.args.before.now c.index-before-0.result (omega arith) c.index-before-0.is;
            after_is = one_told c.args.after.now c.index-after-0.result (omega arith) c.index-after-0.is;
            has = c.in-Some.ensures.some;
            may = c.may_be_marked.ensures.0 c.if-not-may_be_marked.false;
            leaves = c.leaves_in_slot.ensures.0 e;
          }),
      λ w.
          let p : MarkParts known c.args.rec.now c.name_of-name.result c.args.before.now c.args.after.now = mark_back
          known c.args.rec.now d c.name_of-name.result c.args.before.now c.args.after.now c.name_of-name.ensures
          c.in-MarkDeleted.is w in
          c.leaves_in_slot.ensures.1 ((mark_left known c.args.rec.now c.name_of-name.result c.args.before.now
          c.args.after.now c.index-before-0.result c.index-after-0.result (head_shown c.in-Some.head) p
          (one_back c.args.before.now c.index-before-0.result p.old p.before_is c.index-before-0.is)
          (one_back c.args.after.now c.index-after-0.result p.new p.after_is c.index-after-0.is)
          c.in-Some.ensures.some).1),
    )
