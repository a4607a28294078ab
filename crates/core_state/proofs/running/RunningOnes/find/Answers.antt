use Rattle.std.proofs.Common.{ap, sym}
use Rattle.core_state.specs.Inner.Begun.{Kept}
use Rattle.core_state.proofs.BegunSteps.{seen, seen_runs}
use Rattle.core_state.proofs.running.RunningOnes.find.Goals as goal

pub returns : goal.returns
returns c =
    let here =
    seen c.self.inside.begun.items c.deref.result.now c.args.xid c.in_ok-i.i c.index.result.now
    c.deref.ensures.value c.in_ok-i.ensures.some c.index.ensures in
    sym
    (seen_runs c.self.inside.begun.items c.args.self.now.list c.args.xid c.in_ok-i.i
    c.index.result.now c.self.invariant.0
    (ap (λ (k : Kept). k.list) c.self.view_is) here)
