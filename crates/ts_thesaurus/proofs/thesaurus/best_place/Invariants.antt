use Rattle.std.proofs.Common.{map}
use Rattle.ts_base.specs.Dictionary.{answer_value}
use Rattle.ts_thesaurus.specs.Inner.Best.{IsBestOf}
use Rattle.ts_thesaurus.proofs.thesaurus.best_place.Given as goal

abbrev pub invariant-loop-i : goal.invariant-loop-i
invariant-loop-i l = IsBestOf l.rules (map answer_value l.answers) l.i l.best l.longest
