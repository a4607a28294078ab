use Rattle.std.proofs.Common.{length, ap, arith}
use Rattle.page_types.specs.Inner.Joins.{child_with}
use Rattle.page_types.proofs.Joining.{length-joined, joined_removed}
use Rattle.page_types.proofs.inners.EntryChildren.remove.Goals as goal

pub remove-requires : goal.remove-requires
remove-requires c = omega (
  arith,
  length-joined child_with c.self.inside.pages.items c.self.inside.bounds c.self.invariant,
  ap length c.self.view_is,
  c.requires,
)

pub returns : goal.returns
returns c =
    joined_removed child_with c.self.inside.pages.items c.remove.new.self.items c.self.inside.bounds c.remove-2.new.self
    c.args.k c.args.self.now c.self.invariant c.remove.ensures.items c.remove-2.ensures c.self.view_is
