use Rattle.std.proofs.Common.{◌≡◌, set, sym, ap, ◌∙◌}
use Rattle.std.specs.Prelude.{Option, Some}
use Rattle.std.specs.Option.{option_map}
use Rattle.page_types.specs.Parts.{head_shown, head_with}
use Rattle.page_types.specs.declared.page.Head.{Head}
use Rattle.page_types.specs.declared.slots.HeadFields.{HeadFields}
use Rattle.doc_heap.specs.Leaving.{with_first, fields_with}
use Rattle.doc_heap.proofs.SlotLists.{used_within}
use Rattle.doc_heap.proofs.Leavings.{head_begins}
use Rattle.doc_heap.proofs.leaving.begin_chain.Goals as goal

pub set_fields-requires : goal.set_fields-requires
set_fields-requires c =
    used_within c.args.slots.now c.args.k (head_shown c.in-Some.head) (sym c.in-Some.ensures)

pub returns : goal.returns
returns c = λ h is.
    let same : head_shown c.in-Some.head ≡ h = cc c.in-Some.ensures in
    let f : HeadFields = fields_with c.args.chain c.args.page c.in-Some.head.fields in
    c.set_fields.ensures
    ∙ ap (λ (s : Option Head). set c.args.slots.now c.args.k
    (option_map (λ (g : Head). head_with c.with_first.result g.vector) s)) (sym c.in-Some.ensures)
    ∙ ap (λ (g : HeadFields). set c.args.slots.now c.args.k (Some (head_with g c.in-Some.head.vector.now)))
    c.with_first.ensures
    ∙ ap (λ (g : Head). set c.args.slots.now c.args.k (Some g))
    (head_begins c.args.chain c.args.page c.in-Some.head.fields c.in-Some.head.vector.now)
    ∙ ap (λ (g : Head). set c.args.slots.now c.args.k (Some (with_first c.args.chain c.args.page g))) same
