use Rattle.std.proofs.Common.{◌≡◌, length, All}
use Rattle.std.specs.List.{flat_map}
use Rattle.ts_base.specs.Encoding.{entry_bytes}
use Rattle.ts_base.specs.Vectors.{Vector, IsEntry}
use Rattle.gin_scan.proofs.OwnLexemes.{AreLeft}
use Rattle.gin_scan.proofs.lexemes.has_named.Given as goal

abbrev pub invariant-loop-rest : goal.invariant-loop-rest
invariant-loop-rest l =
    (v : Vector) → All IsEntry v → l.entries ≡ flat_map entry_bytes v → AreLeft l.operand v l.rest

abbrev pub decreases-loop-rest : goal.decreases-loop-rest
decreases-loop-rest l = length l.rest
