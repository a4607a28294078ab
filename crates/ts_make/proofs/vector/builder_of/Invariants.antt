use Rattle.std.proofs.Common.{◌≡◌, ◌++◌, map}
use Rattle.std.specs.Vec.Iter.{into_iter_items}
use Rattle.ts_make.specs.Made.{made_entry}
use Rattle.ts_make.proofs.vector.builder_of.Given as goal

abbrev pub invariant-loop-lexeme : goal.invariant-loop-lexeme
invariant-loop-lexeme l = record {
  done : l.builder ≡ map made_entry l.yielded;
  left : l.yielded ++ into_iter_items l.lexeme-iterator ≡ l.fn.placed.items;
}
