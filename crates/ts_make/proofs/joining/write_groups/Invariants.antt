use Rattle.std.proofs.Common.{◌≡◌, None}
use Rattle.std.specs.Vec.Iter.{into_iter_items}
use Rattle.ts_make.specs.Inner.Writing.{joined_from, IsDeep}
use Rattle.ts_make.proofs.joining.write_groups.Given as goal

abbrev pub invariant-loop-lexeme : goal.invariant-loop-lexeme
invariant-loop-lexeme l = record {
  run : joined_from l.way l.marks.weights l.marks.prefix l.last
      (into_iter_items l.lexeme-iterator) l.builder
      ≡ joined_from l.way l.marks.weights l.marks.prefix None l.fn.placed.items l.fn.builder;
  deep : IsDeep l.last l.builder;
}
