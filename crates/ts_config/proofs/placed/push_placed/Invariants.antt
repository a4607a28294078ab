use Rattle.std.proofs.Common.{◌≡◌, ◌++◌, map}
use Rattle.std.specs.Vec.Iter.{into_iter_items}
use Rattle.ts_config.specs.Placing.{placed_at}
use Rattle.ts_config.proofs.placed.push_placed.Given as goal

abbrev pub invariant-loop-lexeme : goal.invariant-loop-lexeme
invariant-loop-lexeme l = record {
  done : l.out.items ≡ l.initial.out.items ++ map (placed_at l.position) l.yielded;
  left : l.yielded ++ into_iter_items l.lexeme-iterator ≡ l.fn.found.items;
}
