use Rattle.std.specs.Str.Iter.{char_indices_rest, char_indices_offset}
use Rattle.ts_query.specs.Inner.Reader.{ReadTo}
use Rattle.ts_query.proofs.reader.read.Given as goal

abbrev pub invariant-loop-at : goal.invariant-loop-at
invariant-loop-at l = ReadTo l.text (char_indices_rest l.at-iterator) (char_indices_offset l.at-iterator) l.reader
