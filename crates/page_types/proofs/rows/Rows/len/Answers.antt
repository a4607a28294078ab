use Rattle.std.proofs.Common.{length, ap, arith}
use Rattle.page_types.specs.Inner.Cuts.{cut_at}
use Rattle.page_types.specs.Inner.Joins.{row_with}
use Rattle.page_types.proofs.Cutting.{length-cut_at}
use Rattle.page_types.proofs.Joining.{length-joined}
use Rattle.page_types.proofs.rows.Rows.len.Goals as goal

pub returns : goal.returns
returns c =
    let cuts = length-cut_at 0 c.self.inside.ends.items c.self.inside.keys in
    omega (
      arith,
      length-joined row_with c.self.inside.items.items (cut_at 0 c.self.inside.ends.items c.self.inside.keys)
          (omega (arith, cuts, c.self.invariant.1)),
      ap length c.self.view_is,
      c.len.ensures,
    )
