-- One item more is asked.
use Rattle.std.proofs.Common.{◌+◌, take, false, sym, subst}
use Rattle.core_state.specs.States.{fate_of}
use Rattle.gin_scan.specs.Seen.{AreSeen}
use Rattle.gin_scan.proofs.HeadsSeen.{seen_next}
use Rattle.gin_scan.proofs.asks.SeenHeadsAskResultVecBoolAllocError.ask.Goals as goal

pub loop-kept-preserved : goal.loop-kept-preserved
loop-kept-preserved c =
    let fates = fate_of c.args.state.now.value in
    let page = c.args.self.now.page.now in
    let ks = c.args.self.now.items.now in
    let k = c.loop-kept.kept-index in
    subst (AreSeen fates c.args.self.now.commits page (take (k + 1) ks)) (sym c.in_ok-push.ensures.items)
    (seen_next fates c.args.self.now.commits page ks c.loop-kept.seen.items k (0, false) c.is_seen.result
    c.loop-kept-test.true c.loop-kept.invariant c.is_seen.ensures)
