use Rattle.std.proofs.Common.{◌≡◌, ◌∷◌, ◌++◌}
use Rattle.std.specs.Prelude.{All}
use Rattle.std.specs.List.{flat_map}
use Rattle.std.specs.String.{string_bytes}
use Rattle.ts_base.specs.Vectors.{IsEntry}
use Rattle.ts_vector.specs.Printed.{entry_text}
use Rattle.ts_vector.proofs.printer.put_others.Given as goal

abbrev pub invariant-loop-entry : goal.invariant-loop-entry
invariant-loop-entry l = (string_bytes l.out ++ flat_map (λ x. 32 ∷ entry_text x) l.entry-iterator
    ≡ string_bytes l.initial.out ++ flat_map (λ x. 32 ∷ entry_text x) l.fn.refs)
    × All IsEntry l.entry-iterator
