use Rattle.std.proofs.Common.{◌≡◌, List, length}
use Rattle.ts_base.specs.Vectors.{Position}
use Rattle.ts_vector.specs.Decoded.{AreRising}
use Rattle.ts_vector.specs.Inner.Fields.{Lists, IsLast}
use Rattle.ts_vector.proofs.bytes.positions.Given as goal

abbrev pub invariant-loop : goal.invariant-loop
invariant-loop l =
    (ps : List Position) × (length ps ≡ l.counter) × AreRising ps × Lists l.count l.bytes ps l.rest × IsLast ps l.last
