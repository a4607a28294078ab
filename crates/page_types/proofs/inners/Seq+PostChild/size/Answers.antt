use Rattle.std.proofs.Common.{length, ap, arith}
use Rattle.std.specs.List.{flat_map}
use Rattle.page_types.specs.Encoding.{post_child_bytes}
use Rattle.page_types.proofs.BodySizes.{post_children_size}
use Rattle.page_types.proofs.inners.Seq+PostChild.size.Goals as goal

pub overflow_mul-result : goal.overflow_mul-result
overflow_mul-result c = omega (
  arith,
  c.requires,
  ap (λ s. length (flat_map post_child_bytes s)) c.self.view_is,
  post_children_size c.self.inside.inner.items,
  c.len.ensures,
)

pub returns : goal.returns
returns c = omega (
  arith,
  ap (λ s. length (flat_map post_child_bytes s)) c.self.view_is,
  post_children_size c.self.inside.inner.items,
  c.len.ensures,
)
