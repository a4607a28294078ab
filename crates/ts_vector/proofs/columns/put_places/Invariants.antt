use Rattle.std.proofs.Common.{◌≡◌, ◌++◌}
use Rattle.ts_vector.proofs.columns.put_places.Given as goal

abbrev pub invariant-loop-place : goal.invariant-loop-place
invariant-loop-place l = l.list.items ++ l.place-iterator ≡ l.fn.list.items ++ l.fn.places
