use Rattle.std.proofs.Common.{◌≡◌, ◌∙◌, sym, ap, subst}
use Rattle.page_types.specs.Pages.{IsPage}
use Rattle.page_types.specs.declared.page.Page.{Page}
use Rattle.core_state.specs.Documents.{slot_of}
use Rattle.gin_vacuum.proofs.FreeSteps.{changes_by}
use Rattle.gin_vacuum.proofs.freeing.without_first.Goals as goal

pub returns-clause-changes : goal.returns-clause-changes
returns-clause-changes c =
    let heap = c.args.both.now.heap in
    let page = c.args.both.now.page in
    let e : c.in_ok-heap.heap ≡ heap.content = c.in_ok-heap.ensures.cases ∙ c.page.ensures.value in
    changes_by c.args.found.chain c.in_ok-heap.heap heap.content c.drop_page.new.page c.slot_in.result
    (slot_of c.args.found.item) c.page-2.result.now.right page.content.right e c.slot_in.ensures
    (ap (λ (p : Page). p.right) c.page-2.ensures.value) c.drop_page.ensures.dropped

pub returns-clause-is_page : goal.returns-clause-is_page
returns-clause-is_page c =
    c.drop_page.ensures.is_page (c.page-2.ensures.is_page).right
    (subst IsPage (sym c.in_ok-heap.ensures.cases) c.page.ensures.is_page)
