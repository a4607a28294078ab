use Rattle.std.proofs.Common.{length, ap, arith}
use Rattle.page_types.specs.Inner.Joins.{joined, entry_with, postings_with}
use Rattle.page_types.proofs.Joining.{length-joined}
use Rattle.page_types.proofs.entries.Entries.len.Goals as goal

pub returns : goal.returns
returns c =
    let inner =
    length-joined postings_with c.self.inside.roots.items c.self.inside.lists (omega (arith, c.self.invariant.1)) in
    omega (
      arith,
      length-joined entry_with c.self.inside.keys (joined postings_with c.self.inside.roots.items c.self.inside.lists)
          (omega (arith, inner, c.self.invariant.0)),
      inner,
      c.self.invariant.0,
      ap length c.self.view_is,
      c.len.ensures,
    )
