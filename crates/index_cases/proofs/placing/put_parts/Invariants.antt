use Rattle.index_cases.specs.Working.{Works}
use Rattle.index_cases.proofs.placing.put_parts.Given as goal

abbrev pub invariant-loop : goal.invariant-loop
invariant-loop g l = record { working : Works l.frames l.pass 16 }
