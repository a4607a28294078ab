use Rattle.std.proofs.Common.{◌<◌, ◌≤◌, length, ap, sym, ◌∙◌, refl, arith}
use Rattle.std.proofs.lemmas.Option.{slice_get_read}
use Rattle.page_types.specs.Inner.Joins.{slot_with}
use Rattle.page_types.specs.Views.{slot_at}
use Rattle.page_types.proofs.Joining.{length-joined, slot_got, slot_past}
use Rattle.page_types.proofs.slots.Slots.get.Goals as goal

pub returns-then-k-len : goal.returns-then-k-len
returns-then-k-len c =
    let few : length c.args.self.now ≤ c.args.k = omega (
      arith,
      length-joined slot_with c.self.inside.fields.items c.self.inside.vectors c.self.invariant,
      ap length c.self.view_is,
      c.len.ensures,
    ) in
    sym (slot_past c.args.self.now c.args.k few)

pub returns-in-None : goal.returns-in-None
returns-in-None c =
    let lt : c.args.k < length c.self.inside.fields.items = omega (arith, c.len.ensures) in
    let field = slice_get_read c.self.inside.fields.items
    (length c.self.inside.fields.items) c.args.k c.index.result.now refl lt c.index.ensures in
    sym (ap (λ s. slot_at s c.args.k) (sym c.self.view_is) ∙ slot_got c.self.inside.fields.items c.self.inside.vectors
    c.args.k c.index.result.now c.at-vector.result.now field c.at-vector.ensures
    ∙ ap (λ f. slot_with f c.at-vector.result.now) c.in-None.is)

pub returns-in-Some : goal.returns-in-Some
returns-in-Some c =
    let lt : c.args.k < length c.self.inside.fields.items = omega (arith, c.len.ensures) in
    let field = slice_get_read c.self.inside.fields.items
    (length c.self.inside.fields.items) c.args.k c.index.result.now refl lt c.index.ensures in
    sym (ap (λ s. slot_at s c.args.k) (sym c.self.view_is) ∙ slot_got c.self.inside.fields.items c.self.inside.vectors
    c.args.k c.index.result.now c.at-vector.result.now field c.at-vector.ensures
    ∙ ap (λ f. slot_with f c.at-vector.result.now) c.in-Some.is)
