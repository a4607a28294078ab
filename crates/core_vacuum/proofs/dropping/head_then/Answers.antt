use Rattle.std.proofs.Common.{sym, ap, ◌∙◌}
use Rattle.page_types.specs.Parts.{head_with, head_shown}
use Rattle.page_types.specs.declared.slots.HeadFields.{HeadFields}
use Rattle.page_types.specs.declared.page.Head.{Head}
use Rattle.page_types.specs.declared.page.Body.TheVariants as body
use Rattle.page_types.specs.declared.page.Gone.TheVariants as gone
use Rattle.std.proofs.lemmas.Bool.{false≢true}
use Rattle.std.proofs.lemmas.Slice.Eq.{bytes_eq-Decides}
use Rattle.std.specs.Prelude.{not}
use Rattle.core_vacuum.proofs.GoneItems.{bytes_same}
use Rattle.core_vacuum.proofs.DroppedPages.{GoesOn, part_back, rows_back, first_gone}
use Rattle.core_vacuum.proofs.LeftPages.{right_of, stamp_of, body_of}
use Rattle.core_vacuum.proofs.dropping.head_then.Goals as goal
use Rattle.core_vacuum.proofs.dropping.head_then.Goals.{then-new-was-via-then-new-was}
use Rattle.core_vacuum.proofs.dropping.head_then.Goals.{then-new-was-via-else-new-was+then-new-rec}
use Rattle.core_vacuum.proofs.dropping.head_then.Goals.{then-head-page-via-then-head-page}
use Rattle.core_vacuum.proofs.dropping.head_then.Goals.{then-head-page-via-else-head-page+then-ne}
use Rattle.core_vacuum.proofs.dropping.head_then.Goals.{then-head-page-2-via-then-head-page-2}
use Rattle.core_vacuum.proofs.dropping.head_then.Goals.{then-head-page-2-via-else-head-page-2+then-not-are_same}
use Rattle.core_vacuum.proofs.dropping.head_then.Goals.{in-Overflow-Overflow+else-head-page+else-ne}
use Rattle.core_vacuum.proofs.dropping.head_then.Goals.{in-Pending-Pending+else-head-page-2+else-not-are_same}

pub returns-clause-some : goal.returns-clause-some
returns-clause-some c =
    let head : Head = head_shown c.args.head in
    let was = c.args.was.now in
    let vector = c.args.head.vector.now in
    let then : Head = head_with c.match-was.fields vector in
    let on : GoesOn head c.args.page was.right was.body c.in-Deleted.gone then = elim c.match-was.branch [
      | in-Overflow-Overflow+else-head-page+else-ne w ↦
          let x = w.in-Overflow-Overflow in
          let same = sym w.as_slice.ensures ∙ bytes_same w.as_slice.result.now w.as_slice-else-head-page.result.now
          w.ne.result w.ne.ensures w.if-ne.false ∙ w.as_slice-else-head-page.ensures in
          GoesOn.overflow x.part w.if-head-page.false x.is-0 (x.is-1 ∙ ap gone.Overflow (sym same))
          (ap (λ (f : HeadFields). head_with f vector) w.fields-is)
      | in-Pending-Pending+else-head-page-2+else-not-are_same w ↦
          let x = w.in-Pending-Pending in
          let same = w.are_same.ensures.0 w.if-not-are_same.false in
          GoesOn.private x.rows w.if-head-page-2.false x.is-0 (x.is-1 ∙ ap gone.Pending same)
          (ap (λ (f : HeadFields). head_with f vector) w.fields-is)
    ] in
    first_gone c.args.rec.now c.args.page was c.args.new.now head then c.in-Deleted.gone c.if-new-was.false
    c.if-new-rec.false c.in-Deleted.is on

pub returns-clause-none : goal.returns-clause-none
returns-clause-none c = tt

pub returns-then-new-was : goal.returns-then-new-was
returns-then-new-was c = record {
  some = tt;
  none = λ h w. elim c.then-new-was.branch [
    | then-new-was-via-then-new-was v ↦
        v.if-new-was.true (right_of c.args.rec.now c.args.new.now c.args.was.now.right (body.Deleted w.content) w.after)
    | then-new-was-via-else-new-was+then-new-rec v ↦
        v.if-new-rec.true (stamp_of c.args.rec.now c.args.new.now c.args.was.now.right (body.Deleted w.content) w.after)
  ];
}

pub returns-in_default : goal.returns-in_default
returns-in_default c = record {
  some = tt;
  none = λ h w. c.in_default.not-Deleted w.content
      (body_of c.args.rec.now c.args.new.now c.args.was.now.right (body.Deleted w.content) w.after);
}

pub returns-then-head-page : goal.returns-then-head-page
returns-then-head-page c = record {
  some = tt;
  none = λ h w.
      let x = part_back c.args.rec.now c.args.page c.args.was.now c.args.new.now (head_shown c.args.head) h
      c.in-Deleted.gone c.in-Deleted.is w
      c.in-Overflow-Overflow.part c.in-Overflow-Overflow.kept c.in-Overflow-Overflow.is-0 c.in-Overflow-Overflow.is-1
      in
      elim c.then-head-page.branch [
        | then-head-page-via-then-head-page v ↦ v.if-head-page.true x.0
        | then-head-page-via-else-head-page+then-ne v ↦
            let same = (bytes_eq-Decides v.as_slice.result.now v.as_slice-else-head-page.result.now).1
            (v.as_slice.ensures ∙ x.1 ∙ sym v.as_slice-else-head-page.ensures) in
            false≢true (sym (v.ne.ensures ∙ ap not same) ∙ v.if-ne.true)
      ];
}

pub returns-then-head-page-2 : goal.returns-then-head-page-2
returns-then-head-page-2 c = record {
  some = tt;
  none = λ h w.
      let x = rows_back c.args.rec.now c.args.page c.args.was.now c.args.new.now (head_shown c.args.head) h
      c.in-Deleted.gone c.in-Deleted.is w
      c.in-Pending-Pending.rows c.in-Pending-Pending.kept c.in-Pending-Pending.is-0 c.in-Pending-Pending.is-1 in
      elim c.then-head-page-2.branch [
        | then-head-page-2-via-then-head-page-2 v ↦ v.if-head-page-2.true x.0
        | then-head-page-2-via-else-head-page-2+then-not-are_same v ↦
            false≢true (sym v.if-not-are_same.true ∙ v.are_same.ensures.1 x.1)
      ];
}
