use Rattle.std.proofs.Common.{◌-◌, refl, sym, ◌∙◌, arith}
use Rattle.std.proofs.lemmas.Bool.{false≢true}
use Rattle.core_vacuum.specs.Inner.Deleting.{GoesAt}
use Rattle.core_vacuum.proofs.LostChildren.{none_first, page_there, goes_there, none_more, none_goes}
use Rattle.core_vacuum.proofs.deleting.loses_child.Goals as goal
use Rattle.core_vacuum.proofs.deleting.loses_child.Goals.{else-children-k-via-then-children-k+else-are_others}
use Rattle.core_vacuum.proofs.deleting.loses_child.Goals.{else-children-k-via-else-children-k}

pub loop-next-init : goal.loop-next-init
loop-next-init c = none_first c.args.page c.args.children.now c.args.new.now

pub are_others-requires : goal.are_others-requires
are_others-requires c = omega (arith, c.loop-next-test.true)

pub returns-then-are_others : goal.returns-then-are_others
returns-then-are_others c = (
  λ e. goes_there c.args.page c.args.children.now c.args.new.now c.loop-next.next (c.loop-next.auto.next)
      c.loop-next-test.true c.if-children-k.true (c.are_others.ensures.0 c.if-are_others.true),
  λ w. refl,
)

pub loop-next-preserved : goal.loop-next-preserved
loop-next-preserved c =
    let none : GoesAt c.args.page c.args.children.now c.args.new.now (c.loop-next.next - 1) → ⊥ = λ g.
    elim c.else-children-k.branch [
      | else-children-k-via-then-children-k+else-are_others w ↦
          false≢true (sym w.if-are_others.false ∙ w.are_others.ensures.1 g.others)
      | else-children-k-via-else-children-k w ↦ w.if-children-k.false
          (page_there c.args.page c.args.children.now c.args.new.now (c.loop-next.next - 1) g)
    ] in
    none_more c.args.page c.args.children.now c.args.new.now c.loop-next.next none c.loop-next.invariant

pub returns : goal.returns
returns c = (
  λ e. absurd (false≢true e),
  λ w. absurd (none_goes c.args.page c.args.children.now c.args.new.now c.loop-next.next c.loop-next-test.false
      c.loop-next.invariant w),
)
