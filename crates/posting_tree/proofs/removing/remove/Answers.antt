use Rattle.std.proofs.Common.{refl, subst}
use Rattle.std.specs.Prelude.{Option, IfSome}
use Rattle.page_types.specs.declared.page.Body.{Body}
use Rattle.posting_tree.specs.Removing.{IsLeafLeft}
use Rattle.posting_tree.proofs.LeftPages.{none_there, left_page}
use Rattle.posting_tree.proofs.removing.remove.Goals as goal

pub returns-in_default-clause-none : goal.returns-in_default-clause-none
returns-in_default-clause-none c = (
  λ e. c.in_ok-body.ensures.none.0 (none_there c.in_ok-body.field-0 c.in_default.not-Some),
  λ h. refl,
)

pub returns-clause-is_page : goal.returns-clause-is_page
returns-clause-is_page c =
    let page = c.args.page.now in
    left_page page c.args.dead.now page.body c.in-Some.body c.requires refl
    (subst (λ (o : Option Body). IfSome o (IsLeafLeft c.args.dead.now page.body)) c.in-Some.is
    c.in_ok-body.ensures.left)
