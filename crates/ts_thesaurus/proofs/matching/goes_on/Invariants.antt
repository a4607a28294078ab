use Rattle.std.proofs.Common.{map}
use Rattle.ts_base.specs.Dictionary.{answer_value}
use Rattle.ts_thesaurus.proofs.Best.{NoneOn}
use Rattle.ts_thesaurus.proofs.matching.goes_on.Given as goal

abbrev pub invariant-loop-rule : goal.invariant-loop-rule
invariant-loop-rule l = NoneOn l.rules (map answer_value l.answers) l.rule-index
