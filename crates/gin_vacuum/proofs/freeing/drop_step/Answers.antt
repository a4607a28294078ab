use Rattle.std.proofs.Common.{sym, subst}
use Rattle.page_types.specs.declared.page.Page.{Page}
use Rattle.gin_vacuum.specs.Freeing.{IsPageOf}
use Rattle.gin_vacuum.specs.Inner.Freeing.{IsDeletedOf}
use Rattle.gin_vacuum.proofs.FreeSteps.{drop_made}
use Rattle.gin_vacuum.proofs.freeing.drop_step.Goals as goal

pub deleted-requires : goal.deleted-requires
deleted-requires c = record {
  page = c.page.ensures.is_page;
  chain = subst (IsPageOf c.args.found.chain) (sym c.page.ensures.value) c.requires.page;
}

pub returns-in-Ok : goal.returns-in-Ok
returns-in-Ok c =
    let both = c.args.both.now in
    let found = c.args.found in
    let e = c.in_ok-heap.ensures in
    drop_made both.heap both.page found c.in_ok-heap.heap c.in-Ok.gone c.two_step.result c.two_step.ensures.step
    c.two_step.ensures.low e.changes
    (subst (λ (p : Page). IsDeletedOf found.chain p c.in-Ok.gone) c.page.ensures.value c.in-Ok.ensures.deleted)
    e.is_page c.in-Ok.ensures.is_page
