use Rattle.std.proofs.Common.{sym, ◌∙◌}
use Rattle.std.proofs.lemmas.Bool.{false≢true}
use Rattle.std.proofs.lemmas.Slice.Eq.{bytes_eq-Decides}
use Rattle.core_vacuum.proofs.LeftPages.{no_left, no_left_then, links_told, linked}
use Rattle.core_vacuum.proofs.deleting.links_past.Goals as goal
use Rattle.core_vacuum.proofs.deleting.links_past.Goals.{then-old-page-via-then-old-page}
use Rattle.core_vacuum.proofs.deleting.links_past.Goals.{then-old-page-via-else-old-page+then-new-to}
use Rattle.core_vacuum.proofs.deleting.links_past.Goals.{then-old-page-via-else-old-page+else-new-to+then-new-rec}

pub returns-in_default : goal.returns-in_default
returns-in_default c = (
  λ e. absurd (false≢true e),
  λ w. absurd (no_left c.args.rec.now c.args.page c.args.to c.args.old.now c.args.new.now c.in_default.not-PostLeaf w),
)

pub returns-in_default-body : goal.returns-in_default-body
returns-in_default-body c = (
  λ e. absurd (false≢true e),
  λ w. absurd (no_left_then c.args.rec.now c.args.page c.args.to c.args.old.now c.args.new.now
      c.in_default-body.not-PostLeaf w),
)

pub returns-then-old-page : goal.returns-then-old-page
returns-then-old-page c = (
  λ e. absurd (false≢true e),
  λ w.
      let x = linked c.args.rec.now c.args.page c.args.to c.args.old.now c.args.new.now c.in-PostLeaf.high
      c.in-PostLeaf.items c.in-PostLeaf-body.new_high c.in-PostLeaf-body.new_items c.in-PostLeaf.is
      c.in-PostLeaf-body.is w in
      elim c.then-old-page.branch [
        | then-old-page-via-then-old-page v ↦ absurd (v.if-old-page.true x.link)
        | then-old-page-via-else-old-page+then-new-to v ↦ absurd (v.if-new-to.true x.right)
        | then-old-page-via-else-old-page+else-new-to+then-new-rec v ↦ absurd (v.if-new-rec.true x.stamp)
        | goal.then-old-page-via-else-old-page+else-new-to+else-new-rec+then-new_high-high v ↦
            absurd (v.if-new_high-high.true x.high_is)
      ],
)

pub returns : goal.returns
returns c =
    let same = bytes_eq-Decides c.as_slice.result.now c.as_slice-2.result.now in (
      λ e. links_told c.args.rec.now c.args.page c.args.to c.args.old.now c.args.new.now c.in-PostLeaf.high
          c.in-PostLeaf.items c.in-PostLeaf-body.new_high c.in-PostLeaf-body.new_items c.in-PostLeaf.is
          c.in-PostLeaf-body.is (record {
            link = c.if-old-page.false;
            right = c.if-new-to.false;
            stamp = c.if-new-rec.false;
            high_is = c.if-new_high-high.false;
            items_are = sym c.as_slice.ensures ∙ same.0 (sym c.eq.ensures ∙ e) ∙ c.as_slice-2.ensures;
          }),
      λ w.
          let x = linked c.args.rec.now c.args.page c.args.to c.args.old.now c.args.new.now c.in-PostLeaf.high
          c.in-PostLeaf.items c.in-PostLeaf-body.new_high c.in-PostLeaf-body.new_items c.in-PostLeaf.is
          c.in-PostLeaf-body.is w in
          c.eq.ensures ∙ same.1 (c.as_slice.ensures ∙ x.items_are ∙ sym c.as_slice-2.ensures),
    )
