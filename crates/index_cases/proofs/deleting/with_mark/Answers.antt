-- The copy of the page is the page, and its slot is used.
use Rattle.std.proofs.Common.{◌≡◌, refl, sym, subst, rules, arith}
use Rattle.std.specs.Prelude.{IsSome}
use Rattle.std.proofs.lemmas.Grind.{common_steps}
use Rattle.page_types.specs.Pages.{IsPage}
use Rattle.page_types.specs.declared.page.Page.{Page}
use Rattle.doc_heap.specs.HeapPages.{head_on}
use Rattle.index_cases.proofs.Deletions.{marked_is}
use Rattle.index_cases.proofs.deleting.with_mark.Goals as goal

pub mark-requires : goal.mark-requires
mark-requires c =
    let copied : c.in_ok-marked.marked ≡ c.args.page.now = first_of (search rules, grind (arith, common_steps)) in
    subst (λ (p : Page). IsSome (head_on p c.args.slot)) (sym copied) (subst IsSome c.in-Some.ensures refl)

pub returns : goal.returns
returns c =
    let copied : c.in_ok-marked.marked ≡ c.args.page.now = first_of (search rules, grind (arith, common_steps)) in
    let page = subst IsPage (sym copied) c.requires in
    marked_is c.in_ok-marked.marked c.mark.new.page c.args.slot c.args.xid page
    (subst (λ (p : Page). IsSome (head_on p c.args.slot)) (sym copied) (subst IsSome c.in-Some.ensures refl))
    c.mark.ensures.marked (c.mark.ensures.is_page page)
