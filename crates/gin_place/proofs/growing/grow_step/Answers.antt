use Rattle.std.proofs.Common.{◌≡◌, ◌<◌, refl, ap, ap₂, subst, ◌∙◌, inl, rules}
use Rattle.std.proofs.lemmas.Result.{err_from_is_err_and}
use Rattle.page_types.specs.Numbers.{page_limit}
use Rattle.entry_tree.specs.Growing.{moved_down}
use Rattle.gin_place.specs.Causes.{CanGrow}
use Rattle.gin_place.specs.Inner.Dividing.{WhyNotTaken}
use Rattle.gin_place.specs.Inner.Logging.{IsGrowStep}
use Rattle.gin_place.specs.Trees.{root_with}
use Rattle.gin_place.specs.declared.error.PlaceError.TheVariants.{OutOfMemory}
use Rattle.gin_place.proofs.Causing.{at_exit}
use Rattle.gin_place.proofs.Exits.{no_ok, none_ok}
use Rattle.gin_place.proofs.GrowSteps.{grow_made}
use Rattle.gin_place.proofs.SplitCauses.{is_bad}
use Rattle.gin_place.proofs.growing.grow_step.Goals as goal

pub returns-then-not-can_grow : goal.returns-then-not-can_grow
returns-then-not-can_grow c =
    let off : CanGrow c.args.sought c.page-page.result.now → ⊥ =
    λ can. let z : ⊥ = search (rules, c.can_grow.ensures.1 can) in z in
    record {
      step = tt;
      can = tt;
      low = tt;
      cause = is_bad (CanGrow c.args.sought) c.args.root.now c.page-page.result.now c.page-page.ensures.value
          c.page-page.ensures.is_page off c.bad_page.result c.bad_page.ensures;
    }

pub returns-in_err-inner : goal.returns-in_err-inner
returns-in_err-inner c =
    let r = c.from_residual.result in
    let p = err_from_is_err_and r c.from_residual.ensures.1 in
    let root = c.args.root.now in
    record {
      step = none_ok r p.0 (IsGrowStep c.args.sought root c.args.new.now) p.1;
      can = no_ok r p.0 (CanGrow c.args.sought root.content) p.1;
      low = no_ok r p.0 ((root.page < page_limit) × (c.args.new.now.page < page_limit)) p.1;
      cause = at_exit (WhyNotTaken (CanGrow c.args.sought) root) r p.0 OutOfMemory p.1 p.2 (inl refl);
    }

pub returns-in_err-two_step : goal.returns-in_err-two_step
returns-in_err-two_step c =
    let r = c.from_residual-in_err-two_step.result in
    let p = err_from_is_err_and r c.from_residual-in_err-two_step.ensures.1 in
    let root = c.args.root.now in
    record {
      step = none_ok r p.0 (IsGrowStep c.args.sought root c.args.new.now) p.1;
      can = no_ok r p.0 (CanGrow c.args.sought root.content) p.1;
      low = no_ok r p.0 ((root.page < page_limit) × (c.args.new.now.page < page_limit)) p.1;
      cause = at_exit (WhyNotTaken (CanGrow c.args.sought) root) r p.0 OutOfMemory p.1 p.2 (inl refl);
    }

pub returns : goal.returns
returns c =
    let e = c.in_ok-inner.ensures in
    let t = c.args.sought in
    let is : c.page-page.result.now ≡ c.args.root.now.content = c.page-page.ensures.value in
    let can = c.can_grow.ensures.0 (search rules) in
    let inner : c.in_ok-inner.inner ≡ root_with t c.args.root.now.content c.args.new.now.page =
    e.root ∙ ap₂ (root_with t) is c.number.ensures.value in
    let moved : c.in_ok-inner.moved ≡ moved_down c.args.root.now.content = e.moved ∙ ap moved_down is in
    let pages = e.are_pages c.page-page.ensures.is_page can.2 c.number.ensures.bound in
    record {
      step = grow_made t c.args.root.now c.args.new.now c.in_ok-inner.inner c.in_ok-inner.moved
          c.in_ok-two_step.field-0 inner moved pages c.in_ok-two_step.ensures.step;
      can = subst (CanGrow t) is can;
      low = c.in_ok-two_step.ensures.low;
      cause = tt;
    }
