use Rattle.std.proofs.Common.{length, ap, arith}
use Rattle.page_types.specs.Encoding.{body_bytes}
use Rattle.page_types.proofs.BodySizes.{length-posting, length-meta}
use Rattle.page_types.proofs.sizes.body_length.Goals as goal

pub overflow_add-result-in-PostLeaf : goal.overflow_add-result-in-PostLeaf
overflow_add-result-in-PostLeaf c = omega (
  arith,
  c.requires.fits,
  ap (λ b. length (body_bytes b)) c.in-PostLeaf.is,
  length-posting c.in-PostLeaf.high c.in-PostLeaf.items,
  c.len-in-PostLeaf.ensures,
)

pub returns-in-Meta : goal.returns-in-Meta
returns-in-Meta c = omega
    (arith, ap (λ b. length (body_bytes b)) c.in-Meta.is, length-meta c.in-Meta.first c.in-Meta.last c.in-Meta.pages)

pub returns-in-PostLeaf : goal.returns-in-PostLeaf
returns-in-PostLeaf c = omega (
  arith,
  ap (λ b. length (body_bytes b)) c.in-PostLeaf.is,
  length-posting c.in-PostLeaf.high c.in-PostLeaf.items,
  c.len-in-PostLeaf.ensures,
)
