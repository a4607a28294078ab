use Rattle.std.proofs.Common.{◌≡◌, ◌≤◌, ◌-◌, ◌*◌, List, length, set, ap, sym, subst, ◌∙◌, arith}
use Rattle.std.proofs.lemmas.List.{length-set}
use Rattle.std.specs.Prelude.{None}
use Rattle.core_state.specs.Inner.Begun.{Kept, running_of, AreBegun, end_of}
use Rattle.core_state.specs.States.{transaction}
use Rattle.core_state.specs.declared.running.Begun.{Begun}
use Rattle.core_state.proofs.BegunOnes.{absent_stays, count_most}
use Rattle.core_state.proofs.BegunSteps.{left_here, within_begun, left_tidy, kept_tidy}
use Rattle.core_state.proofs.running.RunningOnes.leave.Goals as goal

pub returns-in_default-clause-list : goal.returns-in_default-clause-list
returns-in_default-clause-list c =
    let off : transaction c.args.xid (running_of c.self.inside.begun.items) ≡ None =
    subst
    (λ (bs : List Begun). transaction c.args.xid (running_of bs)
    ≡ None) c.deref.ensures.value c.in_default.ensures.none in
    let same = ap (λ (k : Kept). k.list) c.self.view_is in
    sym
    (absent_stays c.args.self.now.list c.args.xid
    (ap (transaction c.args.xid) (sym same) ∙ off))

pub index_mut-requires : goal.index_mut-requires
index_mut-requires c =
    omega (
      arith,
      within_begun c.self.inside.begun.items c.deref.result.now c.args.xid c.in-Some.i
          c.deref.ensures.value c.in-Some.ensures.some,
      c.self.inside.begun.ok,
    )

pub overflow_sub-len : goal.overflow_sub-len
overflow_sub-len c =
    omega (
      arith,
      c.len.ensures,
      c.self.inside.begun.ok.1,
      c.self.invariant.1,
      count_most
          c.self.inside.begun.items,
      length-set c.self.inside.begun.items c.in-Some.i c.bare.result,
    )

pub invariant_of-self : goal.invariant_of-self
invariant_of-self c =
    let left =
    left_here c.self.inside.begun.items c.deref.result.now c.args.self.now.list
    c.self.inside.running c.args.xid c.in-Some.i c.bare.result
    c.self.invariant.0
    (ap
    (λ (k : Kept). k.list) c.self.view_is) c.self.invariant.1 c.deref.ensures.value
    c.in-Some.ensures.some c.bare.ensures in
    let tidy =
    kept_tidy c.self.inside.begun.items c.args.self.now.list c.args.xid c.self.inside.running
    (set c.self.inside.begun.items c.in-Some.i c.bare.result) left in
    subst
    (λ (bs : List Begun). AreBegun 0 bs × (c.self.inside.running - 1 ≡ length (running_of bs))
    × (length bs ≤ 2 * (c.self.inside.running - 1)))
    (sym c.drop_ended.ensures) (tidy.rise, tidy.count, tidy.most)

pub invariant_of-self-else-len-self : goal.invariant_of-self-else-len-self
invariant_of-self-else-len-self c =
    let left =
    left_here c.self.inside.begun.items c.deref.result.now c.args.self.now.list
    c.self.inside.running c.args.xid c.in-Some.i c.bare.result
    c.self.invariant.0
    (ap
    (λ (k : Kept). k.list) c.self.view_is) c.self.invariant.1 c.deref.ensures.value
    c.in-Some.ensures.some c.bare.ensures in
    let tidy =
    left_tidy c.self.inside.begun.items c.args.self.now.list c.args.xid c.self.inside.running
    (set c.self.inside.begun.items c.in-Some.i c.bare.result) left
    (omega (
      arith,
      c.if-len-self.false,
      c.len.ensures,
      c.self.inside.begun.ok.1,
      length-set
          c.self.inside.begun.items c.in-Some.i c.bare.result,
    ))
    in
    (tidy.rise, tidy.count, tidy.most)

pub returns-then-len-self-clause-list : goal.returns-then-len-self-clause-list
returns-then-len-self-clause-list c =
    let left =
    left_here c.self.inside.begun.items c.deref.result.now c.args.self.now.list
    c.self.inside.running c.args.xid c.in-Some.i c.bare.result
    c.self.invariant.0
    (ap
    (λ (k : Kept). k.list) c.self.view_is) c.self.invariant.1 c.deref.ensures.value
    c.in-Some.ensures.some c.bare.ensures in
    let tidy =
    kept_tidy c.self.inside.begun.items c.args.self.now.list c.args.xid c.self.inside.running
    (set c.self.inside.begun.items c.in-Some.i c.bare.result) left in
    ap running_of c.drop_ended.ensures ∙ tidy.list

pub returns-then-len-self-clause-end : goal.returns-then-len-self-clause-end
returns-then-len-self-clause-end c =
    let left =
    left_here c.self.inside.begun.items c.deref.result.now c.args.self.now.list
    c.self.inside.running c.args.xid c.in-Some.i c.bare.result
    c.self.invariant.0
    (ap
    (λ (k : Kept). k.list) c.self.view_is) c.self.invariant.1 c.deref.ensures.value
    c.in-Some.ensures.some c.bare.ensures in
    let tidy =
    kept_tidy c.self.inside.begun.items c.args.self.now.list c.args.xid c.self.inside.running
    (set c.self.inside.begun.items c.in-Some.i c.bare.result) left in
    omega (
      arith,
      ap (end_of 0) c.drop_ended.ensures,
      tidy.end,
      ap
          (λ (k : Kept). k.end) c.self.view_is,
    )

pub returns-else-len-self-clause-list : goal.returns-else-len-self-clause-list
returns-else-len-self-clause-list c =
    let left =
    left_here c.self.inside.begun.items c.deref.result.now c.args.self.now.list
    c.self.inside.running c.args.xid c.in-Some.i c.bare.result
    c.self.invariant.0
    (ap
    (λ (k : Kept). k.list) c.self.view_is) c.self.invariant.1 c.deref.ensures.value
    c.in-Some.ensures.some c.bare.ensures in
    left.list

pub returns-else-len-self-clause-end : goal.returns-else-len-self-clause-end
returns-else-len-self-clause-end c =
    let left =
    left_here c.self.inside.begun.items c.deref.result.now c.args.self.now.list
    c.self.inside.running c.args.xid c.in-Some.i c.bare.result
    c.self.invariant.0
    (ap
    (λ (k : Kept). k.list) c.self.view_is) c.self.invariant.1 c.deref.ensures.value
    c.in-Some.ensures.some c.bare.ensures in
    omega (arith, left.end, ap (λ (k : Kept). k.end) c.self.view_is)
