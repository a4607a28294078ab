use Rattle.std.proofs.Common.{◌≡◌, ◌++◌, take}
use Rattle.std.specs.List.{flat_map}
use Rattle.ts_base.specs.Vectors.{Entry}
use Rattle.ts_vector.proofs.places.PlacesIterator.next.Given as goal

abbrev pub invariant-loop-self : goal.invariant-loop-self
invariant-loop-self l =
    (l.self-inside.here ++ flat_map (λ (e : Entry). e.positions) (take l.self-inside.count l.self-inside.entries))
    ≡ l.fn.self

abbrev pub decreases-loop-self : goal.decreases-loop-self
decreases-loop-self l = l.self-inside.count
