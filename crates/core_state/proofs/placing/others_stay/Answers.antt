use Rattle.std.proofs.Common.{refl, inl, inr, arith}
use Rattle.core_state.proofs.PlacedHeads.{alike_past, below_or_past}
use Rattle.core_state.proofs.placing.others_stay.Goals as goal

pub returns : goal.returns
returns c = (
  λ e j off. elim (below_or_past j c.loop-j.j) [
    | inl l ↦ c.loop-j.invariant j l off
    | inr p ↦ alike_past c.args.new.now c.args.slots.now j (grind (arith, c.max-end.ensures, c.loop-j-test.false, p))
        (grind (arith, c.max-end.ensures, c.loop-j-test.false, p))
  ],
  λ h. refl,
)
