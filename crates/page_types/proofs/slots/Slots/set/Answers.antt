use Rattle.std.proofs.Common.{◌<◌, length, refl, ap, arith}
use Rattle.std.specs.Option.{option_map}
use Rattle.page_types.specs.Inner.Joins.{slot_with}
use Rattle.page_types.specs.Parts.{head_shown}
use Rattle.page_types.specs.Views.{vector_in}
use Rattle.page_types.proofs.Joining.{length-joined, joined_set, within_vector}
use Rattle.page_types.proofs.slots.Slots.set.Goals as goal

pub set-requires : goal.set-requires
set-requires c = omega (
  arith,
  length-joined slot_with c.self.inside.fields.items c.self.inside.vectors c.self.invariant,
  ap length c.self.view_is,
  c.requires,
)

pub index_mut-requires : goal.index_mut-requires
index_mut-requires c = omega (
  arith,
  length-joined slot_with c.self.inside.fields.items c.self.inside.vectors c.self.invariant,
  ap length c.self.view_is,
  c.requires,
)

pub returns-in_err-set-clause-short : goal.returns-in_err-set-clause-short
returns-in_err-set-clause-short c = λ small.
    let lt : c.args.k < length c.self.inside.fields.items = omega (
      arith,
      length-joined slot_with c.self.inside.fields.items c.self.inside.vectors c.self.invariant,
      ap length c.self.view_is,
      c.requires,
    ) in
    let small' = rw (← c.self.view_is) at small in
    let least = within_vector c.self.inside.fields.items c.self.inside.vectors c.args.k
    (length (vector_in (option_map head_shown c.args.slot))) c.self.invariant lt small' in
    cc (c.in_err-set.ensures.short (rw c.parts_of-fields.ensures.vector least))

pub returns-clause-ok : goal.returns-clause-ok
returns-clause-ok c =
    joined_set slot_with c.self.inside.fields.items _ c.self.inside.vectors c.set.new.self c.args.k
    c.parts_of-fields.result.0 c.parts_of-fields.result.1.now (option_map head_shown c.args.slot) c.args.self.now
    c.self.invariant refl c.in_ok-set.ensures.ok c.parts_of-fields.ensures.whole c.self.view_is
