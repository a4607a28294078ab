use Rattle.std.proofs.Common.{ℕ, List, length, ap, arith}
use Rattle.std.specs.List.{sum_by}
use Rattle.page_types.proofs.Splicing.{all_total}
use Rattle.page_types.proofs.pieces.Pieces.size.Goals as goal

pub returns : goal.returns
returns c = omega (
  arith,
  c.len.ensures,
  all_total c.self.inside.ends.items c.self.inside.bytes.items c.self.invariant,
  ap (λ (l : List (List ℕ)). sum_by length l) c.self.view_is,
)
