use Rattle.std.proofs.Common.{subst}
use Rattle.ts_match.specs.Inner.Pass.{Splits}
use Rattle.ts_match.proofs.Passes.{first_bound, end_bound}
use Rattle.ts_match.proofs.pass.with_index.Goals as goal

pub returns-in-First : goal.returns-in-First
returns-in-First c = λ v o old new. first_bound v o c.args.known c.args.index old
    (subst (λ s. Splits v o s c.args.index) c.in-First.is new)

pub returns-in-End : goal.returns-in-End
returns-in-End c =
    λ v o old new. end_bound v o c.args.known c.args.index old (subst (λ s. Splits v o s c.args.index) c.in-End.is new)
