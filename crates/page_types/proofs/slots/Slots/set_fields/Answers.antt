use Rattle.std.proofs.Common.{◌<◌, List, Option, length, set, refl, sym, ap, ◌∙◌, arith}
use Rattle.std.specs.Option.{option_map}
use Rattle.std.proofs.lemmas.Option.{slice_get_read}
use Rattle.page_types.specs.declared.page.Head.{Head}
use Rattle.page_types.specs.Inner.Joins.{slot_with}
use Rattle.page_types.specs.Parts.{head_with}
use Rattle.page_types.specs.Views.{slot_at}
use Rattle.page_types.proofs.Joining.{length-joined, fields_set, fields_free}
use Rattle.page_types.proofs.slots.Slots.set_fields.Goals as goal

pub index-requires : goal.index-requires
index-requires c = omega (
  arith,
  length-joined slot_with c.self.inside.fields.items c.self.inside.vectors c.self.invariant,
  ap length c.self.view_is,
  c.requires,
)

pub index_mut-requires : goal.index_mut-requires
index_mut-requires c = omega (
  arith,
  length-joined slot_with c.self.inside.fields.items c.self.inside.vectors c.self.invariant,
  ap length c.self.view_is,
  c.requires,
)

pub returns-then-is_some : goal.returns-then-is_some
returns-then-is_some c =
    let lt : c.args.k < length c.self.inside.fields.items = omega (
      arith,
      length-joined slot_with c.self.inside.fields.items c.self.inside.vectors c.self.invariant,
      ap length c.self.view_is,
      c.requires,
    ) in
    let got = slice_get_read c.self.inside.fields.items
    (length c.self.inside.fields.items) c.args.k c.index.result.now refl lt c.index.ensures in
    fields_set c.self.inside.fields.items c.self.inside.vectors c.args.k c.index.result.now c.args.fields
    c.self.invariant got (sym c.is_some.ensures ∙ c.if-is_some.true)
    ∙ ap (λ (l : List (Option Head)). set l c.args.k
    (option_map (λ (h : Head). head_with c.args.fields h.vector) (slot_at l c.args.k))) c.self.view_is

pub returns-else-is_some : goal.returns-else-is_some
returns-else-is_some c =
    let lt : c.args.k < length c.self.inside.fields.items = omega (
      arith,
      length-joined slot_with c.self.inside.fields.items c.self.inside.vectors c.self.invariant,
      ap length c.self.view_is,
      c.requires,
    ) in
    let got = slice_get_read c.self.inside.fields.items
    (length c.self.inside.fields.items) c.args.k c.index.result.now refl lt c.index.ensures in
    sym c.self.view_is ∙ fields_free c.self.inside.fields.items c.self.inside.vectors c.args.k c.index.result.now
    c.args.fields c.self.invariant got (sym c.is_some.ensures ∙ c.if-is_some.false)
    ∙ ap (λ (l : List (Option Head)). set l c.args.k
    (option_map (λ (h : Head). head_with c.args.fields h.vector) (slot_at l c.args.k))) c.self.view_is
