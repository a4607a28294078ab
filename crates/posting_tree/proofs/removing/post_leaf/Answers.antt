use Rattle.std.proofs.Common.{refl, sym, subst}
use Rattle.std.proofs.lemmas.Option.{none-some}
use Rattle.std.proofs.lemmas.Bool.{false≢true}
use Rattle.std.proofs.Common.{◌∙◌}
use Rattle.posting_code.specs.Uniting.{IsLeft}
use Rattle.posting_tree.specs.Removing.{IsLeafLeft}
use Rattle.posting_tree.proofs.LeftPages.{postings_none}
use Rattle.posting_tree.proofs.removing.post_leaf.Goals as goal

pub returns-then-branch-clause-none : goal.returns-then-branch-clause-none
returns-then-branch-clause-none c = (
  λ e. (postings_none c.args.dead.now c.args.high c.args.list.now).0
      (c.in_ok-write_left.ensures.same.0 c.if-branch.true),
  λ h. refl,
)

pub returns-clause-left : goal.returns-clause-left
returns-clause-left c =
    IsLeafLeft.postings c.args.high c.args.list.now c.from_vec.result
    (subst (IsLeft c.args.list.now c.args.dead.now) (sym c.from_vec.ensures) c.in_ok-write_left.ensures.left)

pub returns-clause-none : goal.returns-clause-none
returns-clause-none c = (
  λ e. absurd (none-some _ (sym e)),
  λ h. absurd (false≢true (sym c.if-branch.false ∙ c.in_ok-write_left.ensures.same.1
      ((postings_none c.args.dead.now c.args.high c.args.list.now).1 h))),
)
