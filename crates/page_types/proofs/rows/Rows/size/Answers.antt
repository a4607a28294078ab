use Rattle.std.proofs.Common.{length, ap, arith}
use Rattle.std.specs.List.{flat_map}
use Rattle.page_types.specs.Encoding.{row_bytes}
use Rattle.page_types.proofs.BodySizes.{rows_size}
use Rattle.page_types.proofs.rows.Rows.size.Goals as goal

pub overflow_mul-result : goal.overflow_mul-result
overflow_mul-result c = omega (
  arith,
  c.requires,
  ap (λ s. length (flat_map row_bytes s)) c.self.view_is,
  rows_size c.self.inside.items.items c.self.inside.ends.items c.self.inside.keys c.self.invariant.0
      c.self.invariant.1,
  c.len.ensures,
)

pub overflow_mul-result-2 : goal.overflow_mul-result-2
overflow_mul-result-2 c = omega (
  arith,
  c.requires,
  ap (λ s. length (flat_map row_bytes s)) c.self.view_is,
  rows_size c.self.inside.items.items c.self.inside.ends.items c.self.inside.keys c.self.invariant.0
      c.self.invariant.1,
  c.len-2.ensures,
)

pub overflow_add-result : goal.overflow_add-result
overflow_add-result c =
    omega (
      arith,
      c.requires,
      ap (λ s. length (flat_map row_bytes s)) c.self.view_is,
      rows_size c.self.inside.items.items c.self.inside.ends.items c.self.inside.keys c.self.invariant.0
          c.self.invariant.1,
      c.len-2.ensures,
      c.size.ensures,
    )

pub overflow_add-result-2 : goal.overflow_add-result-2
overflow_add-result-2 c =
    omega (
      arith,
      c.requires,
      ap (λ s. length (flat_map row_bytes s)) c.self.view_is,
      rows_size c.self.inside.items.items c.self.inside.ends.items c.self.inside.keys c.self.invariant.0
          c.self.invariant.1,
      c.len.ensures,
      c.len-2.ensures,
      c.size.ensures,
    )

pub returns : goal.returns
returns c =
    omega (
      arith,
      ap (λ s. length (flat_map row_bytes s)) c.self.view_is,
      rows_size c.self.inside.items.items c.self.inside.ends.items c.self.inside.keys c.self.invariant.0
          c.self.invariant.1,
      c.len.ensures,
      c.len-2.ensures,
      c.size.ensures,
    )
