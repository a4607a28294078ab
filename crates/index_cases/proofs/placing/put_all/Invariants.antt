use Rattle.index_cases.specs.Working.{Works}
use Rattle.index_cases.proofs.placing.put_all.Given as goal

abbrev pub invariant-loop-k : goal.invariant-loop-k
invariant-loop-k g l = record { working : Works l.frames l.pass 16 }
