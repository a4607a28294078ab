use Rattle.std.proofs.Common.{ℕ, List, vec_len}
use Rattle.ts_query.specs.Queries.{Tree}
use Rattle.ts_query.specs.Inner.Frames.{Frame}
use Rattle.ts_query.specs.Inner.Parsing.{ShowsHeld, Applied}
use Rattle.ts_query.proofs.parser.Parser.apply_all.Given as goal

abbrev pub invariant-loop : goal.invariant-loop
invariant-loop l =
    (j : ℕ) (fs : List Frame) (y : Tree) → ShowsHeld l.initial.self j fs y → Applied l.least j fs y l.self

abbrev pub decreases-loop : goal.decreases-loop
decreases-loop l = vec_len l.self.ops
