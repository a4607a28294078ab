use Rattle.std.proofs.Common.{◌≡◌, ◌++◌, drop}
use Rattle.std.specs.String.{string_bytes}
use Rattle.ts_query.specs.Inner.Pieces.{text_of}
use Rattle.ts_query.proofs.print.write_parts.Given as goal

abbrev pub invariant-loop-part : goal.invariant-loop-part
invariant-loop-part l =
    string_bytes l.out ++ text_of (drop l.part-index l.parts) (drop l.next l.operands) ≡ text_of l.parts l.operands
