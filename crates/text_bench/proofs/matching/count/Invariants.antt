use Rattle.std.proofs.Common.{◌≡◌}
use Rattle.ts_match.specs.Plan.{plan_of}
use Rattle.text_bench.proofs.matching.count.Given as goal

abbrev pub invariant-loop-document : goal.invariant-loop-document
invariant-loop-document l = l.work ≡ plan_of l.query
