use Rattle.std.proofs.Common.{◌∷◌, [], ◌++◌, List, Option, ap, ◌∙◌}
use Rattle.std.specs.Option.{option_map}
use Rattle.page_types.specs.declared.slots.HeadFields.{HeadFields}
use Rattle.page_types.specs.Inner.Joins.{slot_with}
use Rattle.page_types.specs.Parts.{head_shown}
use Rattle.page_types.proofs.Joining.{joined_grown}
use Rattle.page_types.proofs.slots.Slots.push.Goals as goal

pub returns-clause-ok : goal.returns-clause-ok
returns-clause-ok c =
    joined_grown slot_with c.self.inside.fields.items c.push_reserved.new.self.items
    c.self.inside.vectors c.push.new.self c.parts_of-fields.result.0 c.parts_of-fields.result.1.now
    (option_map head_shown c.args.slot) c.args.self.now c.self.invariant
    (c.push_reserved.ensures.items ∙ ap (λ (t : List (Option HeadFields)). t ++ c.parts_of-fields.result.0 ∷ [])
    c.reserve.ensures.items) c.in_ok-push.ensures.ok c.parts_of-fields.ensures.whole c.self.view_is
