use Rattle.std.proofs.Common.{arith}
use Rattle.core_state.specs.Inner.Members.{members_of}
use Rattle.core_state.proofs.SharedFronts.{take_next, shared_end}
use Rattle.core_state.proofs.members.shared.Goals as goal

pub loop-k-preserved : goal.loop-k-preserved
loop-k-preserved c =
    let next = take_next (members_of c.args.a) (members_of c.args.b) c.loop-k.k c.loop-k.invariant.front
    (c.is_same_at.ensures.0 c.if-not-is_same_at.false) in
    record { within = next.0; front = next.1 }

pub returns : goal.returns
returns c =
    shared_end (members_of c.args.a) (members_of c.args.b) c.loop-k.k c.count-end.result c.loop-k.invariant.within
    c.loop-k.invariant.front (omega (arith, c.loop-k-test.false, c.count-end.ensures)) (omega arith) c.count-end.ensures
