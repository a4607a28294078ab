use Rattle.std.proofs.Common.{length, ap, arith}
use Rattle.page_types.specs.Inner.Joins.{slot_with}
use Rattle.page_types.proofs.Joining.{length-joined}
use Rattle.page_types.proofs.slots.Slots.len.Goals as goal

pub returns : goal.returns
returns c = omega (
  arith,
  length-joined slot_with c.self.inside.fields.items c.self.inside.vectors c.self.invariant,
  ap length c.self.view_is,
  c.len.ensures,
)
