use Rattle.std.proofs.Common.{◌≡◌, ◌++◌, take}
use Rattle.std.specs.List.{flat_map}
use Rattle.ts_base.specs.Encoding.{position_bytes}
use Rattle.ts_vector.proofs.codec.put_positions.Given as goal

abbrev pub invariant-loop-position : goal.invariant-loop-position
invariant-loop-position l =
    l.out.items ≡ l.initial.out.items ++ flat_map position_bytes (take l.position-index l.positions)
