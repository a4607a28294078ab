use Rattle.std.proofs.Common.{ap, arith}
use Rattle.core_state.specs.Inner.Begun.{Kept}
use Rattle.core_state.proofs.BegunOnes.{count_most}
use Rattle.core_state.proofs.BegunSteps.{one_begins}
use Rattle.core_state.proofs.running.RunningOnes.begin.Goals as goal

pub overflow_add-self : goal.overflow_add-self
overflow_add-self c =
    omega (arith, c.self.invariant.1, count_most c.self.inside.begun.items, c.self.inside.begun.ok)

pub invariant_of-self : goal.invariant_of-self
invariant_of-self c =
    let i = c.self.invariant in
    let more =
    one_begins c.self.inside.begun.items c.args.self.now.list c.self.inside.running c.args.xid
    c.bare.result c.push_reserved.new.self.items
    i.0 i.1 i.2 (ap (λ (k : Kept). k.list) c.self.view_is)
    (omega
    (arith, c.requires.next, ap (λ (k : Kept). k.end) c.self.view_is)) c.bare.ensures
    c.push_reserved.ensures.items in
    (more.rise, more.count, more.most)

pub returns-clause-list : goal.returns-clause-list
returns-clause-list c =
    let i = c.self.invariant in
    (one_begins c.self.inside.begun.items c.args.self.now.list c.self.inside.running c.args.xid
    c.bare.result c.push_reserved.new.self.items
    i.0 i.1 i.2 (ap (λ (k : Kept). k.list) c.self.view_is)
    (omega
    (arith, c.requires.next, ap (λ (k : Kept). k.end) c.self.view_is)) c.bare.ensures
    c.push_reserved.ensures.items).list

pub returns-clause-end : goal.returns-clause-end
returns-clause-end c =
    let i = c.self.invariant in
    (one_begins c.self.inside.begun.items c.args.self.now.list c.self.inside.running c.args.xid
    c.bare.result c.push_reserved.new.self.items
    i.0 i.1 i.2 (ap (λ (k : Kept). k.list) c.self.view_is)
    (omega
    (arith, c.requires.next, ap (λ (k : Kept). k.end) c.self.view_is)) c.bare.ensures
    c.push_reserved.ensures.items).end
