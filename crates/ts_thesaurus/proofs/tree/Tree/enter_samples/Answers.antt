use Rattle.std.proofs.Common.{take, map}
use Rattle.ts_thesaurus.specs.Views.{sample_value}
use Rattle.ts_thesaurus.proofs.Entering.{samples_stand, samples_next}
use Rattle.ts_thesaurus.proofs.tree.Tree.enter_samples.Goals as goal

pub enter_sample-requires : goal.enter_sample-requires
enter_sample-requires c =
    samples_stand (map sample_value (take c.loop-sample.sample-index c.args.samples.now)) c.args.self.now.states.items
    c.loop-sample.self.states.items 0 c.loop-sample.state c.loop-sample.invariant c.requires

pub loop-sample-preserved : goal.loop-sample-preserved
loop-sample-preserved c =
    samples_next c.args.samples.now c.loop-sample.sample-index c.sample-item.result c.args.self.now.states.items
    c.loop-sample.self.states.items c.enter_sample.new.self.states.items c.loop-sample.state
    c.in_ok-state.state c.loop-sample-test.true c.sample-item.is c.loop-sample.invariant c.in_ok-state.ensures
