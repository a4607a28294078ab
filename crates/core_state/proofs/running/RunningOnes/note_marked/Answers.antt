use Rattle.std.proofs.Common.{◌≡◌, ◌<◌, length, refl, ap, subst, ◌∙◌}
use Rattle.std.specs.Prelude.{Option, Some, IfSome}
use Rattle.std.specs.Vec.{vec_capacity}
use Rattle.core_state.specs.Inner.Begun.{Kept}
use Rattle.core_state.specs.States.{transaction}
use Rattle.core_state.specs.declared.running.Begun.{Begun}
use Rattle.core_state.specs.declared.transactions.Transaction.{Transaction}
use Rattle.core_state.proofs.BegunOnes.{begun_put}
use Rattle.core_state.proofs.BegunSteps.{seen, seen_runs, stays_begun, marked_seen}
use Rattle.core_state.proofs.running.RunningOnes.note_marked.Goals as goal

pub add-requires : goal.add-requires
add-requires c =
    let here =
    seen c.self.inside.begun.items c.deref.result.now c.args.xid c.in-Some.i
    c.index_mut.result.now c.deref.ensures.value c.in-Some.ensures.some
    c.index_mut.ensures.value in
    let is : transaction c.args.xid c.args.self.now.list ≡ Some c.index_mut.result.now.transaction =
    seen_runs c.self.inside.begun.items c.args.self.now.list c.args.xid c.in-Some.i
    c.index_mut.result.now c.self.invariant.0
    (ap (λ (k : Kept). k.list) c.self.view_is) here in
    subst
    (λ (o : Option Transaction). IfSome o
    (λ (t : Transaction). length t.deleted < vec_capacity c.args.spare.now)) is c.requires

pub invariant_of-self : goal.invariant_of-self
invariant_of-self c =
    let b : Begun = c.index_mut.result.now in
    let here =
    seen c.self.inside.begun.items c.deref.result.now c.args.xid c.in-Some.i b
    c.deref.ensures.value c.in-Some.ensures.some c.index_mut.ensures.value in
    stays_begun c.self.inside.begun.items c.self.inside.running c.args.xid c.in-Some.i b
    (record b.transaction { deleted = c.add.new.self }) c.self.invariant.0 c.self.invariant.1
    c.self.invariant.2 here refl

pub returns-in-Some-clause-list : goal.returns-in-Some-clause-list
returns-in-Some-clause-list c =
    let b : Begun = c.index_mut.result.now in
    let here =
    seen c.self.inside.begun.items c.deref.result.now c.args.xid c.in-Some.i b
    c.deref.ensures.value c.in-Some.ensures.some c.index_mut.ensures.value in
    marked_seen c.self.inside.begun.items c.args.self.now.list c.args.xid c.in-Some.i b c.args.name
    c.add.new.self c.self.invariant.0
    (ap (λ (k : Kept). k.list) c.self.view_is) here c.add.ensures

pub returns-in-Some-clause-end : goal.returns-in-Some-clause-end
returns-in-Some-clause-end c =
    let b : Begun = c.index_mut.result.now in
    let here =
    seen c.self.inside.begun.items c.deref.result.now c.args.xid c.in-Some.i b
    c.deref.ensures.value c.in-Some.ensures.some c.index_mut.ensures.value in
    (begun_put c.self.inside.begun.items 0 c.in-Some.i b
    (record { transaction = record b.transaction { deleted = c.add.new.self }; runs = b.runs })
    c.self.invariant.0 here.at refl).1
    ∙ ap (λ (k : Kept). k.end) c.self.view_is
