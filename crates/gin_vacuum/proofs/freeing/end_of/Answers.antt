use Rattle.std.proofs.Common.{◌≡◌, ◌-◌, ℕ, length, take, drop, subst, arith}
use Rattle.core_state.specs.Log.{In}
use Rattle.gin_vacuum.proofs.Groups.{past_group, group_grows, not_first, none_after}
use Rattle.gin_vacuum.proofs.freeing.end_of.Goals as goal

pub loop-k-init : goal.loop-k-init
loop-k-init c =
    let none : c.args.from - c.args.from ≡ 0 = omega arith in (
      omega arith,
      λ i at. absurd (subst (λ (n : ℕ). In i (take n (drop c.args.from c.args.items.now))) none at),
    )

pub loop-k-preserved : goal.loop-k-preserved
loop-k-preserved c = (
  omega (arith, c.loop-k.invariant.0),
  group_grows c.args.items.now c.args.from c.loop-k.k c.args.page c.loop-k.invariant.0 c.loop-k-test.true
      c.if-items-k.false c.loop-k.invariant.1,
)

pub returns-then-items-k-clause-within : goal.returns-then-items-k-clause-within
returns-then-items-k-clause-within c = (
  not_first c.args.items.now c.args.from c.loop-k.k c.args.page c.loop-k.invariant.0 c.requires.page c.if-items-k.true,
  omega (arith, c.loop-k-test.true),
)

pub returns-then-items-k-clause-here : goal.returns-then-items-k-clause-here
returns-then-items-k-clause-here c = c.loop-k.invariant.1

pub returns-then-items-k-clause-past : goal.returns-then-items-k-clause-past
returns-then-items-k-clause-past c = λ are.
    past_group c.args.items.now c.args.from c.loop-k.k c.args.page are c.loop-k.invariant.0 c.loop-k-test.true
    c.requires.page c.if-items-k.true

pub returns-clause-here : goal.returns-clause-here
returns-clause-here c = λ i at.
    let all : length c.args.items.now ≡ c.loop-k.k =
    omega (arith, c.loop-k-test.false, c.loop-k.auto.k-end (omega (arith, c.requires.left))) in
    c.loop-k.invariant.1 i
    (subst (λ (n : ℕ). In i (take (n - c.args.from) (drop c.args.from c.args.items.now))) all at)

pub returns-clause-past : goal.returns-clause-past
returns-clause-past c = λ are i at. absurd (none_after i c.args.items.now at)
