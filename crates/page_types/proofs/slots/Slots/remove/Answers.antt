use Rattle.std.proofs.Common.{length, ap, arith}
use Rattle.page_types.specs.Inner.Joins.{slot_with}
use Rattle.page_types.proofs.Joining.{length-joined, joined_removed}
use Rattle.page_types.proofs.slots.Slots.remove.Goals as goal

pub remove-requires : goal.remove-requires
remove-requires c = omega (
  arith,
  length-joined slot_with c.self.inside.fields.items c.self.inside.vectors c.self.invariant,
  ap length c.self.view_is,
  c.requires,
)

pub returns : goal.returns
returns c = joined_removed slot_with c.self.inside.fields.items c.remove.new.self.items c.self.inside.vectors
    c.remove-2.new.self c.args.k c.args.self.now c.self.invariant c.remove.ensures.items c.remove-2.ensures
    c.self.view_is
