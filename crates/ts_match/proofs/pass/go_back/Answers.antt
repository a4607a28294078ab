use Rattle.std.proofs.Common.{arith}
use Rattle.ts_match.proofs.pass.go_back.Goals as goal

pub returns-clause-short : goal.returns-clause-short
returns-clause-short c = λ k d l. let e = c.start.ensures.left in absurd (omega arith)
