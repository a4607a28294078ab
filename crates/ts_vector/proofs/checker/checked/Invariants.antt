use Rattle.std.proofs.Common.{◌≡◌, ◌*◌, ◌<◌, ◌≤◌, length}
use Rattle.ts_base.specs.Vectors.{Vector}
use Rattle.ts_vector.specs.Decoded.{ReadsFields, counted}
use Rattle.ts_vector.specs.Inner.Fields.{IsFront}
use Rattle.ts_vector.proofs.checker.checked.Given as goal

abbrev pub invariant-loop : goal.invariant-loop
invariant-loop l = (v : Vector) × (length v ≡ l.counter) × IsFront v l.front × (l.front.size < 1048576)
    × ReadsFields l.bytes (counted l.count v) l.rest × (2 * l.front.places ≤ l.front.size)
