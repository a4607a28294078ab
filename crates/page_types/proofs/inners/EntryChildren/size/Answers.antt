use Rattle.std.proofs.Common.{length, ap, arith}
use Rattle.std.specs.List.{flat_map}
use Rattle.page_types.specs.Encoding.{entry_child_bytes}
use Rattle.page_types.proofs.BodySizes.{entry_children_size}
use Rattle.page_types.proofs.inners.EntryChildren.size.Goals as goal

pub overflow_mul-result : goal.overflow_mul-result
overflow_mul-result c = omega (
  arith,
  c.requires,
  ap (λ s. length (flat_map entry_child_bytes s)) c.self.view_is,
  entry_children_size c.self.inside.pages.items c.self.inside.bounds c.self.invariant,
  c.len.ensures,
)

pub overflow_add-result : goal.overflow_add-result
overflow_add-result c = omega (
  arith,
  c.requires,
  ap (λ s. length (flat_map entry_child_bytes s)) c.self.view_is,
  entry_children_size c.self.inside.pages.items c.self.inside.bounds c.self.invariant,
  c.len.ensures,
  c.size.ensures,
)

pub returns : goal.returns
returns c = omega (
  arith,
  ap (λ s. length (flat_map entry_child_bytes s)) c.self.view_is,
  entry_children_size c.self.inside.pages.items c.self.inside.bounds c.self.invariant,
  c.len.ensures,
  c.size.ensures,
)
