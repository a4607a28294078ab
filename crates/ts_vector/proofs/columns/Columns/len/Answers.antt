use Rattle.std.proofs.Common.{length, ap, arith}
use Rattle.ts_vector.specs.Inner.Columns.{origin}
use Rattle.ts_vector.proofs.ColumnFacts.{entries_long}
use Rattle.ts_vector.proofs.columns.Columns.len.Goals as goal

pub returns : goal.returns
returns c =
    let f = c.self.inside in
    omega (
      arith,
      c.len.ensures,
      f.ends.ok.0,
      entries_long f.lexemes.items f.positions.items origin f.ends.items,
      ap length c.self.view_is,
    )
