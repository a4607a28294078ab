use Rattle.std.proofs.Common.{subst}
use Rattle.page_types.specs.declared.page.Page.{Page}
use Rattle.gin_cleanup.specs.Inner.Shifting.{IsMetaWithout, IsDeletedOf}
use Rattle.gin_cleanup.proofs.ShiftSteps.{shift_made}
use Rattle.gin_cleanup.proofs.first_page.shift_step.Goals as goal

pub returns : goal.returns
returns c =
    let m = c.args.first.now.meta in
    let p = c.args.first.now.page in
    let meta_then = c.meta_without-meta_then.result in
    let gone = c.in_ok-gone.gone in
    shift_made m p meta_then gone
    (subst (λ (x : Page). IsMetaWithout m.content x.right meta_then) c.page-page.ensures.value
    (subst (λ (x : Page). IsMetaWithout x c.page-page.result.now.right meta_then) c.page-meta.ensures.value
    c.meta_without-meta_then.ensures.without))
    (subst (λ (x : Page). IsDeletedOf x gone) c.page-page.ensures.value c.in_ok-gone.ensures.deleted)
    (c.meta_without-meta_then.ensures.is_page, c.in_ok-gone.ensures.is_page) c.two_step.result
    c.two_step.ensures.step c.two_step.ensures.low
