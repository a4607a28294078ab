use Rattle.std.proofs.Common.{◌≡◌, ◌<◌, ℕ, Some, sym, ap, subst, ◌∙◌, arith}
use Rattle.std.specs.Prelude.{Option, IfSome}
use Rattle.std.specs.List.{slice_get}
use Rattle.page_types.specs.Numbers.{page_limit}
use Rattle.page_types.specs.Pages.{IsPage}
use Rattle.page_types.specs.Views.{entries_in}
use Rattle.page_types.specs.declared.page.Page.{Page}
use Rattle.entry_tree.specs.Adding.{IsEntryLeaf, list_entry}
use Rattle.entry_tree.specs.Rooting.{rooted}
use Rattle.gin_place.specs.Inner.Logging.{IsTreeStep}
use Rattle.gin_place.proofs.Exits.{if_ok}
use Rattle.gin_place.proofs.RootingLists.{entry_list, tree_made}
use Rattle.gin_place.proofs.rooting.tree_step.Goals as goal

pub unreachable-requires : goal.unreachable-requires
unreachable-requires c =
    let long = c.requires.1 in
    c.in_default.ensures.none c.requires.0 long.list
    (subst (λ (p : Page). slice_get (entries_in p.body) c.args.place ≡ Some (list_entry c.requires.0 long.list))
    (sym c.page-page.ensures.value) long.there)

pub root_at-requires-clause-leaf : goal.root_at-requires-clause-leaf
root_at-requires-clause-leaf c =
    subst (λ (p : Page). IsEntryLeaf p.body) (sym c.page-page.ensures.value) (c.requires.1).leaf

pub root_at-requires-clause-list : goal.root_at-requires-clause-list
root_at-requires-clause-list c =
    let long = c.requires.1 in
    record {
      key = c.requires.0;
      list = long.list;
      there = subst (λ (p : Page). slice_get (entries_in p.body) c.args.place
          ≡ Some (list_entry c.requires.0 long.list)) (sym c.page-page.ensures.value) long.there;
    }

pub root_at-requires-clause-fits : goal.root_at-requires-clause-fits
root_at-requires-clause-fits c = c.page-page.ensures.is_page.fits

pub unreachable-requires-in_default-2 : goal.unreachable-requires-in_default-2
unreachable-requires-in_default-2 c =
    let long = c.requires.1 in
    omega (
      arith,
      long.two,
      c.in_ok-named.ensures.short c.in_default-2.is c.requires.0 long.list
          (subst (λ (p : Page). slice_get (entries_in p.body) c.args.place
          ≡ Some (list_entry c.requires.0 long.list)) (sym c.page-page.ensures.value) long.there),
    )

pub leaf-requires : goal.leaf-requires
leaf-requires c =
    let at = c.in-Some.ensures.some in
    let there = subst (λ (p : Page). slice_get (entries_in p.body) c.args.place
    ≡ Some (list_entry at.0 c.in-Some.list.now)) c.page-page.ensures.value at.1 in
    let is = entry_list c.args.held.now.content c.args.place at.0 c.in-Some.list.now (c.requires.1).page
    (c.requires.1).leaf there in
    record { list = is.1; short = is.0 }

pub returns-in-Ok-clause-step : goal.returns-in-Ok-clause-step
returns-in-Ok-clause-step c =
    let at = c.in-Some.ensures.some in
    let old = c.args.held.now in
    let root = c.number.result in
    let there = subst (λ (p : Page). slice_get (entries_in p.body) c.args.place
    ≡ Some (list_entry at.0 c.in-Some.list.now)) c.page-page.ensures.value at.1 in
    let is : c.page-page.result.now ≡ old.content = c.page-page.ensures.value in
    let page = subst (λ (o : Option Page). IfSome o (λ p.
    p ≡ record c.page-page.result.now { body = rooted c.page-page.result.now.body c.args.place root }))
    c.in-Some-2.is c.in_ok-named.ensures.rooted in
    let named : c.in-Some-2.named
    ≡ record old.content { body = rooted old.content.body c.args.place c.args.new.now.page } =
    page
    ∙ ap (λ (p : Page). record p { body = rooted p.body c.args.place root }) is
    ∙ ap (λ (n : ℕ). record old.content { body = rooted old.content.body c.args.place n }) c.number.ensures.value in
    let fits = subst (λ (o : Option Page). IfSome o (λ p.
    IsPage c.page-page.result.now → root < page_limit → IsPage p)) c.in-Some-2.is c.in_ok-named.ensures.is_page in
    if_ok c.two_step.result _ (IsTreeStep c.args.place old c.args.new.now)
    (λ s made. tree_made c.args.place old c.args.new.now at.0 c.in-Some.list.now c.in-Some-2.named c.in-Ok.tree s there
    (c.requires.1).leaf named c.in-Ok.ensures.leaf
    (fits c.page-page.ensures.is_page c.number.ensures.bound, c.in-Ok.ensures.is_page) made) c.two_step.ensures.step
