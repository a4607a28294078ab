use Rattle.std.proofs.Common.{sym, subst₂}
use Rattle.std.proofs.lemmas.Bool.{false≢true}
use Rattle.core_vacuum.specs.Inner.Deleting.{LosesChild}
use Rattle.core_vacuum.proofs.LeftPages.{no_parent, no_parent_then, parent_told, lost}
use Rattle.core_vacuum.proofs.deleting.leaves_parent.Goals as goal
use Rattle.core_vacuum.proofs.deleting.leaves_parent.Goals.{then-new-old-via-then-new-old}
use Rattle.core_vacuum.proofs.deleting.leaves_parent.Goals.{then-new-old-via-else-new-old+then-new-rec}

pub returns-in_default : goal.returns-in_default
returns-in_default c = (
  λ e. absurd (false≢true e),
  λ w. absurd (no_parent c.args.rec.now c.args.page c.args.old.now c.args.new.now c.in_default.not-PostInner w),
)

pub returns-in_default-body : goal.returns-in_default-body
returns-in_default-body c = (
  λ e. absurd (false≢true e),
  λ w. absurd (no_parent_then c.args.rec.now c.args.page c.args.old.now c.args.new.now
      c.in_default-body.not-PostInner w),
)

pub returns-then-new-old : goal.returns-then-new-old
returns-then-new-old c = (
  λ e. absurd (false≢true e),
  λ w.
      let x = lost c.args.rec.now c.args.page c.args.old.now c.args.new.now c.in-PostInner.children
      c.in-PostInner-body.new_children c.in-PostInner.is c.in-PostInner-body.is w in
      elim c.then-new-old.branch [
        | then-new-old-via-then-new-old v ↦ absurd (v.if-new-old.true x.right)
        | then-new-old-via-else-new-old+then-new-rec v ↦ absurd (v.if-new-rec.true x.stamp)
      ],
)

pub returns : goal.returns
returns c = (
  λ e. parent_told c.args.rec.now c.args.page c.args.old.now c.args.new.now c.in-PostInner.children
      c.in-PostInner-body.new_children c.in-PostInner.is c.in-PostInner-body.is (record {
        right = c.if-new-old.false;
        stamp = c.if-new-rec.false;
        loses = subst₂ (LosesChild c.args.page) c.as_slice.ensures c.as_slice-2.ensures (c.loses_child.ensures.0 e);
      }),
  λ w. c.loses_child.ensures.1 (subst₂ (LosesChild c.args.page) (sym c.as_slice.ensures) (sym c.as_slice-2.ensures)
      (lost c.args.rec.now c.args.page c.args.old.now c.args.new.now c.in-PostInner.children
      c.in-PostInner-body.new_children c.in-PostInner.is c.in-PostInner-body.is w).loses),
)
