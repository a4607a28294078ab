use Rattle.std.proofs.Common.{ℕ, get_or, take, sym, subst, inl, inr, arith}
use Rattle.std.proofs.lemmas.List.{take_all, take_more}
use Rattle.core_state.specs.Log.{In}
use Rattle.gin_vacuum.specs.Inner.Freeing.{HasNoChain}
use Rattle.gin_vacuum.proofs.Groups.{in_more, get_in}
use Rattle.gin_vacuum.proofs.freeing.next_chain.Goals as goal

pub loop-k-init : goal.loop-k-init
loop-k-init c = λ i at. absurd at

pub returns-in-Some-clause-item : goal.returns-in-Some-clause-item
returns-in-Some-clause-item c =
    subst (λ (i : ℕ). In i c.args.items.now) (sym c.in-Some.ensures.item)
    (get_in c.args.items.now c.loop-k.k c.loop-k-test.true)

pub loop-k-preserved : goal.loop-k-preserved
loop-k-preserved c = λ i at.
    let items = c.args.items.now in
    elim (in_more i (get_or items c.loop-k.k 0) (take c.loop-k.k items)
    (subst (In i) (take_more items c.loop-k.k 0 c.loop-k-test.true) at)) [
      | inl old ↦ c.loop-k.invariant i old
      | inr e ↦ subst (HasNoChain c.args.page.now) (sym e) c.in_default.ensures.none
    ]

pub returns-clause-none : goal.returns-clause-none
returns-clause-none c = λ i at.
    c.loop-k.invariant i
    (subst (In i) (sym (take_all c.loop-k.k c.args.items.now (omega (arith, c.loop-k-test.false)))) at)
