use Rattle.std.proofs.Common.{refl, sym, ap, ◌∙◌}
use Rattle.std.specs.Prelude.{Option, slice_set}
use Rattle.std.specs.Option.{option_map}
use Rattle.page_types.specs.Parts.{head_shown, head_with}
use Rattle.page_types.specs.declared.page.Head.{Head}
use Rattle.page_types.specs.declared.slots.HeadFields.{HeadFields}
use Rattle.buffer_frames.proofs.Numbered.{slot_within, numbered_at, numbered_none}
use Rattle.buffer_frames.proofs.drawing.number_slot.Goals as goal

pub set_fields-requires : goal.set_fields-requires
set_fields-requires c =
    slot_within c.args.slots.now c.args.k (head_shown c.in-Some.head)
    (sym c.get.ensures ∙ ap (option_map head_shown) c.in-Some.is)

pub returns-in-Some : goal.returns-in-Some
returns-in-Some c =
    let fields : HeadFields = record (c.in-Some.head.fields) { serial = c.args.serial } in
    c.set_fields.ensures
    ∙ ap (λ (o : Option Head). slice_set c.args.slots.now c.args.k
    (option_map (λ (h : Head). head_with fields h.vector) o))
    (sym c.get.ensures ∙ ap (option_map head_shown) c.in-Some.is)
    ∙ sym (numbered_at c.args.slots.now c.args.k c.args.serial (head_shown c.in-Some.head) (head_with fields
    (head_shown c.in-Some.head).vector) (sym c.get.ensures ∙ ap (option_map head_shown) c.in-Some.is) refl)

pub returns-in_default : goal.returns-in_default
returns-in_default c = sym (numbered_none c.args.slots.now c.args.k c.args.serial
    (sym c.get.ensures ∙ ap (option_map head_shown) c.in_default.is))
