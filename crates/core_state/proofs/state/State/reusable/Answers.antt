use Rattle.std.proofs.Common.{List, get_or, ap, subst, ◌∙◌, arith}
use Rattle.std.specs.Prelude.{Some}
use Rattle.core_state.specs.PageChoice.{IsLeastIfAny, IsReusable}
use Rattle.core_state.specs.Rooms.{InMemory}
use Rattle.core_state.specs.declared.answers.PageUse.{PageUse}
use Rattle.core_state.specs.declared.answers.PageUse.TheVariants as usage
use Rattle.core_state.proofs.PageRanks.{least_by_rank}
use Rattle.core_state.proofs.state.State.reusable.Goals as goal

pub returns-then-since-eq18446744073709551615 : goal.returns-then-since-eq18446744073709551615
returns-then-since-eq18446744073709551615 c =
    subst (λ (us : List PageUse). IsLeastIfAny (IsReusable (λ p. get_or us p usage.Unused) c.args.since)
    c.first_reusable.result)
    (c.deref.ensures.value ∙ ap (λ (h : InMemory). h.value.uses) c.self.view_is) c.first_reusable.ensures

pub returns : goal.returns
returns c =
    subst (λ (us : List PageUse). IsLeastIfAny (IsReusable (λ p. get_or us p usage.Unused) c.args.since)
    (Some c.in_ok-page.page))
    (ap (λ (h : InMemory). h.value.uses) c.self.view_is)
    (least_by_rank c.self.inside.uses.items c.self.inside.ranks c.args.since (Some c.in_ok-page.page)
    (omega (arith, c.if-since-eq18446744073709551615.false, c.ranges.since.fits)) c.self.invariant.2
    c.in_ok-page.ensures.least)
