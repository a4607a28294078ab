use Rattle.std.proofs.Common.{sym, ap, ◌∙◌}
use Rattle.std.proofs.lemmas.Bool.{false≢true}
use Rattle.page_types.proofs.ItemReading.{none_left}
use Rattle.page_types.specs.declared.page.Body.TheVariants as body
use Rattle.core_vacuum.proofs.LeftPages.{not_leaf, not_deleted, not_gone_leaf, deleted_told, emptied, is_none}
use Rattle.core_vacuum.proofs.deleting.leaves_deleted.Goals as goal
use Rattle.core_vacuum.proofs.deleting.leaves_deleted.Goals.{then-new-old-via-then-new-old}
use Rattle.core_vacuum.proofs.deleting.leaves_deleted.Goals.{then-new-old-via-else-new-old+then-new-rec}
use Rattle.core_vacuum.proofs.deleting.leaves_deleted.Goals.{then-new-old-via-else-new-old+else-new-rec+then-kept-high}

pub returns-in_default : goal.returns-in_default
returns-in_default c = (
  λ e. absurd (false≢true e),
  λ w. absurd (not_leaf c.args.rec.now c.args.old.now c.args.new.now c.in_default.not-PostLeaf w),
)

pub returns-in_default-body : goal.returns-in_default-body
returns-in_default-body c = (
  λ e. absurd (false≢true e),
  λ w. absurd (not_deleted c.args.rec.now c.args.old.now c.args.new.now c.in_default-body.not-Deleted w),
)

pub returns-in_default-gone : goal.returns-in_default-gone
returns-in_default-gone c = (
  λ e. absurd (false≢true e),
  λ w. absurd (not_gone_leaf c.args.rec.now c.args.old.now c.args.new.now c.in-Deleted.gone c.in-Deleted.is
      c.in_default-gone.not-PostLeaf w),
)

pub returns-then-new-old : goal.returns-then-new-old
returns-then-new-old c = (
  λ e. absurd (false≢true e),
  λ w.
      let x = emptied c.args.rec.now c.args.old.now c.args.new.now c.in-PostLeaf.high c.in-PostLeaf.items
      c.in-PostLeaf-gone.kept c.in-PostLeaf-gone.left c.in-PostLeaf.is
      (c.in-Deleted.is ∙ ap body.Deleted c.in-PostLeaf-gone.is) w in
      elim c.then-new-old.branch [
        | then-new-old-via-then-new-old v ↦ absurd (v.if-new-old.true x.right)
        | then-new-old-via-else-new-old+then-new-rec v ↦ absurd (v.if-new-rec.true x.stamp)
        | then-new-old-via-else-new-old+else-new-rec+then-kept-high v ↦ absurd (v.if-kept-high.true x.high_is)
      ],
)

pub returns-then-is_empty : goal.returns-then-is_empty
returns-then-is_empty c = (
  λ e. deleted_told c.args.rec.now c.args.old.now c.args.new.now c.in-PostLeaf.high c.in-PostLeaf.items
      c.in-PostLeaf-gone.kept c.in-PostLeaf-gone.left c.in-PostLeaf.is
      (c.in-Deleted.is ∙ ap body.Deleted c.in-PostLeaf-gone.is) (record {
        right = c.if-new-old.false;
        stamp = c.if-new-rec.false;
        high_is = c.if-kept-high.false;
        none = sym c.as_slice.ensures
            ∙ none_left c.as_slice.result.now c.is_empty.result c.if-is_empty.true c.is_empty.ensures;
        none_left = sym c.as_slice-then-is_empty.ensures
            ∙ none_left c.as_slice-then-is_empty.result.now c.is_empty-then-is_empty.result e
            c.is_empty-then-is_empty.ensures;
      }),
  λ w.
      let x = emptied c.args.rec.now c.args.old.now c.args.new.now c.in-PostLeaf.high c.in-PostLeaf.items
      c.in-PostLeaf-gone.kept c.in-PostLeaf-gone.left c.in-PostLeaf.is
      (c.in-Deleted.is ∙ ap body.Deleted c.in-PostLeaf-gone.is) w in
      is_none c.as_slice-then-is_empty.result.now c.is_empty-then-is_empty.result c.is_empty-then-is_empty.ensures
      (c.as_slice-then-is_empty.ensures ∙ x.none_left),
)

pub returns-else-is_empty : goal.returns-else-is_empty
returns-else-is_empty c = (
  λ e. absurd (false≢true (sym c.if-is_empty.false ∙ e)),
  λ w.
      let x = emptied c.args.rec.now c.args.old.now c.args.new.now c.in-PostLeaf.high c.in-PostLeaf.items
      c.in-PostLeaf-gone.kept c.in-PostLeaf-gone.left c.in-PostLeaf.is
      (c.in-Deleted.is ∙ ap body.Deleted c.in-PostLeaf-gone.is) w in
      is_none c.as_slice.result.now c.is_empty.result c.is_empty.ensures (c.as_slice.ensures ∙ x.none),
)
