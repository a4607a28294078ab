use Rattle.std.proofs.Common.{ℕ, refl, sym, ap, subst, ◌∙◌, arith}
use Rattle.std.specs.Prelude.{Option, IsSome}
use Rattle.page_types.specs.Parts.{head_shown}
use Rattle.page_types.specs.declared.page.Head.{Head}
use Rattle.page_types.specs.declared.record.Kind.TheVariants as kind
use Rattle.core_state.specs.Steps.{sheet}
use Rattle.engine.specs.Inner.Changing.{part_page}
use Rattle.engine.proofs.HeadChanges.{slot_below, led_by, two_left, part_step_is}
use Rattle.engine.proofs.changes.part_step.Goals as goal

pub item_of-requires : goal.item_of-requires
item_of-requires c = (
  omega (arith, c.requires.page, c.number-number.ensures.value, c.number-number.ensures.bound),
  slot_below c.page-page.result.now c.args.name.slot (head_shown c.in-Some.found) c.page-page.ensures.is_page
      (sym c.in-Some.ensures),
)

pub leave_fields-requires : goal.leave_fields-requires
leave_fields-requires c = subst (λ (o : Option Head). IsSome o) c.in-Some.ensures refl

pub returns-clause-step : goal.returns-clause-step
returns-clause-step c =
    let p = c.page-page.result.now in
    let n = c.number-new_number.result in
    let f = c.in-Some.found.fields in
    let left = c.in_ok-leave_fields.ensures in
    part_step_is c.args.xid c.args.name c.args.heap.now.content p c.args.part.now c.args.new.now.page n
    left.new f.overflow c.leave_part.new.step
    (omega (arith, c.requires.page, c.number-number.ensures.value, c.number-number.ensures.bound))
    c.page-page.ensures.value c.number-new_number.ensures.value
    (led_by p c.args.name.slot n f c.in-Some.found.vector.now left.new c.in-Some.ensures left.changes)
    c.page-page.ensures.is_page (omega (arith, c.number-new_number.ensures.value, c.number-new_number.ensures.bound))
    c.requires.fits
    (two_left _ _ c.args.xid c.new-step.result c.leave_fields.new.step c.leave_part.new.step
    (sheet c.number-number.result left.new) (sheet n (part_page f.overflow c.args.part.now))
    c.args.name.page c.args.new.now.page left.new (part_page f.overflow c.args.part.now)
    c.new-step.ensures (ap (λ (i : ℕ). kind.PutOverflow i c.args.name.serial) c.item_of.ensures)
    (ap (λ (k : ℕ). sheet k left.new) (c.number-number.ensures.value ∙ c.requires.page)) left.step_is
    (ap (λ (k : ℕ). sheet k (part_page f.overflow c.args.part.now)) c.number-new_number.ensures.value)
    c.in_ok-leave_part.ensures)
