use Rattle.std.proofs.Common.{◌≡◌, ◌≤◌, List, length, sym, subst}
use Rattle.page_types.specs.Numbers.{page_limit}
use Rattle.core_state.specs.States.{uses_after}
use Rattle.core_state.specs.Inner.Lowest.{AreUsedBelow, IsLowest, EndsUsed}
use Rattle.core_state.specs.declared.answers.PageUse.{PageUse}
use Rattle.core_state.proofs.LowestUse.{used_below_after}
use Rattle.core_state.proofs.LastUses.{ends_after, few_after}
use Rattle.core_state.proofs.state.State.step_reserved.Goals as goal

pub lowest_from-self-inside-requires : goal.lowest_from-self-inside-requires
lowest_from-self-inside-requires c =
    let same : c.deref.result.now ≡ uses_after c.args.rec.now.number c.as_slice-changes.result.now
    c.self.inside.uses.items = cc in
    subst (λ (us : List PageUse). AreUsedBelow us c.self.inside.lowest) (sym same)
    (used_below_after c.args.rec.now.number c.as_slice-changes.result.now c.self.inside.uses.items
    c.self.inside.lowest c.self.invariant.0.lowest.below)

pub invariant_of-self : goal.invariant_of-self
invariant_of-self c = (
  record {
    lowest = subst (λ (us : List PageUse). IsLowest us c.lowest_from-self-inside.result) c.deref.ensures.value
        c.lowest_from-self-inside.ensures;
    ends = subst EndsUsed (sym c.note_uses.ensures.items)
        (ends_after c.args.rec.now.number c.as_slice-changes.result.now c.self.inside.uses.items
        c.self.invariant.0.ends);
  },
  subst (λ (us : List PageUse). length us ≤ page_limit) (sym c.note_uses.ensures.items)
      (few_after c.args.rec.now.number c.as_slice-changes.result.now c.self.inside.uses.items c.self.invariant.1),
  c.note_uses.ensures.ranked,
)
