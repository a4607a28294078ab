use Rattle.std.proofs.Common.{ℕ, sym, ap, subst, ◌∙◌, arith}
use Rattle.page_types.specs.Pages.{IsPage}
use Rattle.page_types.specs.declared.record.Kind.TheVariants as kind
use Rattle.core_state.specs.Steps.{sheet}
use Rattle.engine.proofs.HeadChanges.{some_below, one_left, mark_step_is}
use Rattle.engine.proofs.changes.mark_step.Goals as goal

pub item_of-requires : goal.item_of-requires
item_of-requires c = (
  omega (arith, c.requires.page, c.number-number.ensures.value, c.number-number.ensures.bound),
  some_below c.args.held.now.content c.args.name.slot
      (subst IsPage c.page.ensures.value c.page.ensures.is_page) c.requires.there,
)

pub returns-clause-step : goal.returns-clause-step
returns-clause-step c =
    mark_step_is c.args.xid c.args.name c.args.held.now.content c.in_ok-marked.marked c.mark.new.page c.leave.new.self
    (omega (arith, c.requires.page, c.number-number.ensures.value, c.number-number.ensures.bound))
    (c.in_ok-marked.ensures.cases ∙ c.page.ensures.value)
    (subst IsPage (sym c.in_ok-marked.ensures.cases) c.page.ensures.is_page)
    c.requires.there c.mark.ensures.marked c.mark.ensures.is_page
    (one_left _ _ c.args.xid c.new-step.result c.leave.new.self c.new.result c.args.name.page c.mark.new.page
    c.new-step.ensures (ap (λ (i : ℕ). kind.MarkDeleted i c.args.name.serial) c.item_of.ensures)
    (c.new.ensures ∙ ap (λ (p : ℕ). sheet p c.mark.new.page) (c.number-number.ensures.value ∙ c.requires.page))
    c.in_ok-leave.ensures.ok)
