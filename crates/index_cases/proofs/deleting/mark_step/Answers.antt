-- The step leaves the page with its mark.
use Rattle.std.proofs.Common.{ℕ, subst, arith, rules}
use Rattle.std.specs.Prelude.{Option, IfSome}
use Rattle.std.proofs.lemmas.Grind.{common_steps}
use Rattle.page_types.specs.declared.page.Page.{Page}
use Rattle.index_cases.specs.Deleting.{IsMark, IsMarked}
use Rattle.index_cases.proofs.Deletions.{mark_is}
use Rattle.index_cases.proofs.deleting.mark_step.Goals as goal

pub returns : goal.returns
returns c =
    let page = c.number-page.result in
    let number = c.number-page.ensures in
    let marked = subst (λ (o : Option Page). IfSome o (IsMarked c.args.slot)) c.in-Some.is
    c.in_ok-marked.ensures in
    subst (λ (p : ℕ). IsMark p c.args.xid c.leave.new.self) number.value
    (mark_is page c.args.slot c.args.xid _ c.args.serial c.in-Some.marked c.new-step.result c.leave.new.self
    c.new.result c.new-step.ensures c.new.ensures c.in_ok-leave.ensures.ok number.bound marked
    (first_of (omega arith, search rules, grind (arith, common_steps))) c.ranges.serial.fits)
