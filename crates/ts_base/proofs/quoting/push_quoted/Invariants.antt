use Rattle.std.proofs.Common.{◌≡◌, ◌++◌}
use Rattle.std.specs.List.{flat_map}
use Rattle.std.specs.String.{string_bytes}
use Rattle.std.specs.Str.Iter.{chars_rest}
use Rattle.ts_base.specs.Quoted.{doubled_byte}
use Rattle.ts_base.proofs.quoting.push_quoted.Given as goal

abbrev pub invariant-loop-c : goal.invariant-loop-c
invariant-loop-c l = string_bytes l.out ++ flat_map doubled_byte (chars_rest l.c-iterator)
    ≡ string_bytes l.initial.out ++ flat_map doubled_byte l.text
