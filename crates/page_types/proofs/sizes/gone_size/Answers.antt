use Rattle.std.proofs.Common.{length, ap, arith}
use Rattle.page_types.specs.Encoding.{gone_bytes}
use Rattle.page_types.proofs.BodySizes.{length-posting}
use Rattle.page_types.proofs.sizes.gone_size.Goals as goal

pub overflow_add-result : goal.overflow_add-result
overflow_add-result c = omega (
  arith,
  c.requires,
  ap (λ g. length (gone_bytes g)) c.in-PostLeaf.is,
  length-posting c.in-PostLeaf.high c.in-PostLeaf.items,
  c.len-in-PostLeaf.ensures,
)

pub returns-in-PostLeaf : goal.returns-in-PostLeaf
returns-in-PostLeaf c = omega (
  arith,
  ap (λ g. length (gone_bytes g)) c.in-PostLeaf.is,
  length-posting c.in-PostLeaf.high c.in-PostLeaf.items,
  c.len-in-PostLeaf.ensures,
)
