use Rattle.std.proofs.Common.{length, ap, arith}
use Rattle.core_state.specs.Inner.Lists.{Listed}
use Rattle.page_types.proofs.Cutting.{length-cut_at}
use Rattle.core_state.proofs.names.NameLists.len.Goals as goal

pub returns : goal.returns
returns c = omega (
  arith,
  length-cut_at 0 c.self.inside.ends.items c.self.inside.names.items,
  ap
      (λ (v : Listed). length v.lists) c.self.view_is,
  c.len.ensures,
)
