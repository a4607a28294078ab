use Rattle.std.proofs.Common.{length, ap, arith}
use Rattle.page_types.specs.Inner.Joins.{child_with}
use Rattle.page_types.proofs.Joining.{length-joined}
use Rattle.page_types.proofs.inners.EntryChildren.len.Goals as goal

pub returns : goal.returns
returns c = omega (
  arith,
  length-joined child_with c.self.inside.pages.items c.self.inside.bounds c.self.invariant,
  ap length c.self.view_is,
  c.len.ensures,
)
