use Rattle.std.proofs.Common.{length, ap, arith}
use Rattle.page_types.proofs.Cutting.{length-cut_at}
use Rattle.page_types.proofs.pieces.Pieces.len.Goals as goal

pub returns : goal.returns
returns c = omega
    (arith, length-cut_at 0 c.self.inside.ends.items c.self.inside.bytes.items, ap length c.self.view_is, c.len.ensures)
