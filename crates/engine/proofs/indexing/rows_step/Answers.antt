use Rattle.std.proofs.Common.{ℕ, refl, sym, ap, subst, ◌∙◌, arith}
use Rattle.std.specs.Prelude.{Option, IsSome}
use Rattle.page_types.specs.Parts.{head_shown}
use Rattle.page_types.specs.declared.page.Head.{Head}
use Rattle.page_types.specs.declared.record.Kind.TheVariants as kind
use Rattle.core_state.specs.Steps.{sheet}
use Rattle.engine.specs.Inner.Indexing.{row_page}
use Rattle.engine.proofs.HeadChanges.{slot_below, two_left}
use Rattle.engine.proofs.RowPages.{rows_by, row_page_step_is}
use Rattle.engine.proofs.indexing.rows_step.Goals as goal

pub item_of-requires : goal.item_of-requires
item_of-requires c = (
  omega (arith, c.requires.page, c.number-number.ensures.value, c.number-number.ensures.bound),
  slot_below c.page-page.result.now c.args.name.slot (head_shown c.in-Some.found) c.page-page.ensures.is_page
      (sym c.in-Some.ensures),
)

pub leave_fields-requires : goal.leave_fields-requires
leave_fields-requires c = subst (λ (o : Option Head). IsSome o) c.in-Some.ensures refl

pub returns-clause-step : goal.returns-clause-step
returns-clause-step c =
    let p = c.page-page.result.now in
    let n = c.number-new_number.result in
    let f = c.in-Some.found.fields in
    let left = c.in_default-leave_fields.ensures in
    row_page_step_is c.args.xid c.args.name c.args.heap.now.content p c.args.rows c.args.new.now.page n
    left.new f.private c.leave.new.self
    (omega (arith, c.requires.page, c.number-number.ensures.value, c.number-number.ensures.bound))
    c.page-page.ensures.value c.number-new_number.ensures.value
    (rows_by p c.args.name.slot n f c.in-Some.found.vector.now left.new c.in-Some.ensures left.changes)
    c.page-page.ensures.is_page (omega (arith, c.number-new_number.ensures.value, c.number-new_number.ensures.bound))
    c.requires.rows c.requires.pending
    (two_left _ _ c.args.xid c.new-step.result c.leave_fields.new.step c.leave.new.self
    (sheet c.number-number.result left.new) c.new.result
    c.args.name.page c.args.new.now.page left.new (row_page f.private c.args.rows.body)
    c.new-step.ensures (ap (λ (i : ℕ). kind.PutPending i c.args.name.serial) c.item_of.ensures)
    (ap (λ (k : ℕ). sheet k left.new) (c.number-number.ensures.value ∙ c.requires.page)) left.step_is
    (c.new.ensures ∙ ap (λ (k : ℕ). sheet k (row_page f.private c.args.rows.body)) c.number-new_number.ensures.value)
    c.in_ok-leave.ensures.ok)
