use Rattle.ts_match.proofs.Passes.{named_between}
use Rattle.ts_match.proofs.pass.range_of.Goals as goal

pub returns : goal.returns
returns c = λ v o b. named_between v o c.in_ok-first.first c.in_ok-end.end
    (b.first c.in_ok-first.first c.in_ok-first.was) (b.end c.in_ok-end.end c.in_ok-end.was)
