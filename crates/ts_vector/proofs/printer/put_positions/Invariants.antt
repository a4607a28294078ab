use Rattle.std.proofs.Common.{◌≡◌, ◌∷◌, ◌++◌, take}
use Rattle.std.specs.List.{flat_map}
use Rattle.ts_vector.specs.Printed.{position_text}
use Rattle.ts_vector.proofs.printer.put_positions.Given as goal
use Rattle.std.specs.String.{string_bytes}

abbrev pub invariant-loop-position : goal.invariant-loop-position
invariant-loop-position l = string_bytes l.out
    ≡ string_bytes l.initial.out ++ flat_map (λ p. 44 ∷ position_text p) (take l.position-index l.others)
