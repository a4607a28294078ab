use Rattle.std.proofs.Common.{◌≡◌, ◌≤◌, ◌⊎◌, take}
use Rattle.std.specs.Prelude.{All, Any}
use Rattle.ts_vector.proofs.changes.greatest_from.Given as goal

abbrev pub invariant-loop-position : goal.invariant-loop-position
invariant-loop-position l =
    (l.from ≤ l.greatest) × (l.greatest ≤ 16383) × All (λ p. p.at ≤ l.greatest) (take l.position-index l.positions)
    × ((l.greatest ≡ l.from) ⊎ Any (λ p. p.at ≡ l.greatest) (take l.position-index l.positions))
