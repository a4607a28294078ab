use Rattle.std.proofs.Common.{◌≡◌, ◌++◌}
use Rattle.std.specs.Prelude.{All}
use Rattle.std.specs.List.{flat_map}
use Rattle.ts_base.specs.Encoding.{entry_bytes}
use Rattle.ts_base.specs.Vectors.{IsEntry}
use Rattle.ts_vector.proofs.codec.put_each.Given as goal

abbrev pub invariant-loop-entry : goal.invariant-loop-entry
invariant-loop-entry l =
    (l.out.items ≡ l.initial.out.items ++ flat_map entry_bytes l.yielded) × (l.yielded ++ l.entry-iterator ≡ l.entries)
    × All IsEntry l.entry-iterator
