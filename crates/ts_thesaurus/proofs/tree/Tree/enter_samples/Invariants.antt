use Rattle.std.proofs.Common.{take, map}
use Rattle.ts_thesaurus.specs.Views.{sample_value}
use Rattle.ts_thesaurus.specs.Inner.States.{EntersSamples}
use Rattle.ts_thesaurus.proofs.tree.Tree.enter_samples.Given as goal

abbrev pub invariant-loop-sample : goal.invariant-loop-sample
invariant-loop-sample l = EntersSamples l.initial.self.states.items l.self.states.items 0
    (map sample_value (take l.sample-index l.samples)) l.state
