use Rattle.std.proofs.Common.{Option, List, length, ap, ◌∙◌, arith}
use Rattle.std.specs.List.{insert}
use Rattle.std.specs.Option.{option_map}
use Rattle.page_types.specs.declared.slots.HeadFields.{HeadFields}
use Rattle.page_types.specs.Inner.Joins.{slot_with}
use Rattle.page_types.specs.Parts.{head_shown}
use Rattle.page_types.proofs.Joining.{length-joined, joined_inserted}
use Rattle.page_types.proofs.slots.Slots.insert.Goals as goal

pub insert-requires : goal.insert-requires
insert-requires c = omega (
  arith,
  length-joined slot_with c.self.inside.fields.items c.self.inside.vectors c.self.invariant,
  ap length c.self.view_is,
  c.requires,
)

pub insert-requires-2 : goal.insert-requires-2
insert-requires-2 c = omega (
  arith,
  length-joined slot_with c.self.inside.fields.items c.self.inside.vectors c.self.invariant,
  ap length c.self.view_is,
  c.requires,
  c.reserve.ensures.len,
)

pub returns-clause-ok : goal.returns-clause-ok
returns-clause-ok c =
    let put = rw c.unwrap.ensures at c.insert-2.ensures.items in
    joined_inserted slot_with c.self.inside.fields.items c.insert-2.new.self.items c.self.inside.vectors
    c.insert.new.self c.args.k c.parts_of-fields.result.0 c.parts_of-fields.result.1.now
    (option_map head_shown c.args.slot) c.args.self.now c.self.invariant
    (put ∙ ap (λ (l : List (Option HeadFields)). insert l c.args.k c.parts_of-fields.result.0) c.reserve.ensures.items)
    c.in_ok-insert.ensures.ok c.parts_of-fields.ensures.whole c.self.view_is
