use Rattle.std.proofs.Common.{◌≡◌, List, refl, subst, inl, rules}
use Rattle.std.proofs.lemmas.Result.{err_from_is_err_and}
use Rattle.page_types.specs.Pages.{IsPage}
use Rattle.page_types.specs.declared.page.Page.{Page}
use Rattle.page_types.specs.declared.page.PostChild.{PostChild}
use Rattle.core_state.specs.TreeRules.{PostParent}
use Rattle.gin_place.specs.Adopting.{DividesItems, CanTakeItem}
use Rattle.gin_place.specs.Inner.Dividing.{WhyNotTaken}
use Rattle.gin_place.specs.declared.error.PlaceError.TheVariants.{OutOfMemory}
use Rattle.gin_place.proofs.Causing.{at_exit}
use Rattle.gin_place.proofs.Exits.{in_some, in_none}
use Rattle.gin_place.proofs.Passing.{adopted_post, no_post_taken}
use Rattle.gin_place.proofs.SplitCauses.{is_bad}
use Rattle.gin_place.proofs.posting_splits.adopting.Goals as goal

pub returns-in_err-adopted-clause-cause : goal.returns-in_err-adopted-clause-cause
returns-in_err-adopted-clause-cause c =
    let p = err_from_is_err_and c.from_residual.result c.from_residual.ensures.1 in
    at_exit (WhyNotTaken (CanTakeItem c.args.page c.args.mid) c.args.held.now) c.from_residual.result p.0 OutOfMemory
    p.1 p.2 (inl refl)

pub returns-in-Some-clause-adopts : goal.returns-in-Some-clause-adopts
returns-in-Some-clause-adopts c =
    subst (λ (p : Page). PostParent c.args.page c.args.new c.args.mid p.body c.in-Some.adopted.body)
    c.page-parent.ensures.value
    (in_some c.in_ok-adopted.field-0 c.in-Some.adopted
    (λ p. PostParent c.args.page c.args.new c.args.mid c.page-parent.result.now.body p.body) c.in-Some.is
    c.in_ok-adopted.ensures.adopted)

pub returns-in-Some-clause-same : goal.returns-in-Some-clause-same
returns-in-Some-clause-same c =
    subst (λ (p : Page). c.in-Some.adopted ≡ record p { body = c.in-Some.adopted.body }) c.page-parent.ensures.value
    (in_some c.in_ok-adopted.field-0 c.in-Some.adopted (λ p. p ≡ record c.page-parent.result.now { body = p.body })
    c.in-Some.is c.in_ok-adopted.ensures.same)

pub returns-in-Some-clause-is_page : goal.returns-in-Some-clause-is_page
returns-in-Some-clause-is_page c =
    in_some c.in_ok-adopted.field-0 c.in-Some.adopted IsPage c.in-Some.is
    (adopted_post c.in_ok-adopted.field-0 c.page-parent.result.now c.in-PostInner.children c.args.page c.args.new
    c.args.mid c.in-PostInner.is c.requires.item
    (subst (λ (cs : List PostChild). DividesItems cs c.args.page c.args.mid) c.as_slice.ensures
    (c.divides.ensures.0 (search rules))) c.page-parent.ensures.is_page (c.has_room.ensures.0 (search rules))
    c.requires.new c.in_ok-adopted.ensures.adopted c.in_ok-adopted.ensures.is_page)

pub returns-in-None-clause-cause : goal.returns-in-None-clause-cause
returns-in-None-clause-cause c =
    let parent = c.page-parent.result.now in
    is_bad (CanTakeItem c.args.page c.args.mid) c.args.held.now parent c.page-parent.ensures.value
    c.page-parent.ensures.is_page
    (in_none c.in_ok-adopted.field-0 (CanTakeItem c.args.page c.args.mid parent → ⊥) c.in-None.is
    (no_post_taken c.in_ok-adopted.field-0 parent c.args.page c.args.mid c.in_ok-adopted.ensures.none))
    c.bad_page-in-None.result c.bad_page-in-None.ensures
