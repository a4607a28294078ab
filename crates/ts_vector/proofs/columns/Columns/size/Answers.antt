use Rattle.std.proofs.Common.{ap, arith}
use Rattle.ts_base.specs.Vectors.{content_size}
use Rattle.ts_vector.proofs.ColumnFacts.{columns_size}
use Rattle.ts_vector.proofs.columns.Columns.size.Goals as goal

pub returns : goal.returns
returns c =
    let f = c.self.inside in
    omega (
      arith,
      columns_size f.lexemes.items f.positions.items f.ends.items c.self.invariant,
      ap content_size c.self.view_is,
      f.lexemes.ok.0,
      f.positions.ok.0,
      c.len.ensures,
      c.len-2.ensures,
      c.saturating_mul-positions.ensures,
      c.saturating_add.ensures,
    )
