use Rattle.std.proofs.Common.{◌<◌, [], length, ap, sym, subst, arith}
use Rattle.std.specs.Str.{IsUtf8}
use Rattle.ts_base.specs.Vectors.{Entry}
use Rattle.ts_vector.proofs.TsVector.lexeme.Goals as goal

none : Entry
none = record { lexeme = []; positions = [] }

pub from_utf8_unchecked-requires : goal.from_utf8_unchecked-requires
from_utf8_unchecked-requires c =
    let lt : c.args.k < length c.self.inside.entries = omega (arith, c.requires, ap length c.self.view_is) in
    subst IsUtf8 (sym (c.lexeme-bytes.ensures none)) (c.self.invariant.0.entries c.args.k none lt).lexeme.utf8
