use Rattle.std.proofs.Common.{◌≡◌, ◌++◌}
use Rattle.ts_vector.specs.Inner.CappedForm.{shifted_within}
use Rattle.ts_vector.proofs.Gathering.{Gathers}
use Rattle.ts_vector.proofs.gathered.Gathered.join.Given as goal

abbrev pub invariant-loop-entry : goal.invariant-loop-entry
invariant-loop-entry l = record {
  gathers : Gathers l.fn.self (shifted_within l.by l.yielded) l.self;
  rest : l.yielded ++ l.entry-iterator ≡ l.other;
}
