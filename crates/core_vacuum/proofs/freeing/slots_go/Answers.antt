use Rattle.std.proofs.Common.{◌≡◌, ◌≤◌, length, sym, subst₂, ◌∙◌, arith, inl, inr}
use Rattle.std.proofs.lemmas.Bool.{false≢true}
use Rattle.core_state.specs.States.{known_by}
use Rattle.core_state.specs.VacuumRules.{SlotLoses}
use Rattle.core_vacuum.specs.Inner.Freeing.{BecomesFree}
use Rattle.core_vacuum.proofs.FreedSlots.{one_more, all_go, some_goes}
use Rattle.core_vacuum.proofs.freeing.slots_go.Goals as goal
use Rattle.core_vacuum.proofs.freeing.slots_go.Goals.{then-freed, else-freed}

pub returns-then-not-slot_goes : goal.returns-then-not-slot_goes
returns-then-not-slot_goes c = (
  λ e. absurd (false≢true e),
  λ w. sym c.if-not-slot_goes.true ∙ c.slot_goes.ensures.1
      (subst₂ (SlotLoses (known_by c.args.state.now.value) c.args.floor) (sym c.get-old.ensures)
      (sym c.get-now.ensures) (w.each c.loop-k.k)),
)

pub loop-k-preserved : goal.loop-k-preserved
loop-k-preserved c =
    let k = known_by c.args.state.now.value in
    let here = subst₂ (SlotLoses k c.args.floor) c.get-old.ensures c.get-now.ensures
    (c.slot_goes.ensures.0 c.if-not-slot_goes.false) in
    one_more k c.args.floor c.args.slots.now c.args.new.now c.loop-k.k c.loop-k.freed c.if-freed.freed
    c.loop-k.invariant here
    (λ e. elim c.if-freed.branch [
      | then-freed w ↦ inl w.if-freed.true
      | else-freed w ↦ inr (subst₂ BecomesFree c.get-old.ensures c.get-now.ensures
          (w.becomes_free-freed.ensures.0 (sym w.freed-is ∙ e)))
    ])
    (λ e. elim c.if-freed.branch [
      | then-freed w ↦ absurd (false≢true (sym e ∙ w.freed-is ∙ w.if-freed.true))
      | else-freed w ↦ (
        w.if-freed.false,
        λ b. false≢true (sym e ∙ w.freed-is
            ∙ w.becomes_free-freed.ensures.1 (subst₂ BecomesFree (sym c.get-old.ensures) (sym c.get-now.ensures) b)),
      )
    ])

pub returns : goal.returns
returns c =
    let k = known_by c.args.state.now.value in
    let size : length c.args.new.now ≡ length c.args.slots.now =
    omega (arith, c.len.ensures, c.len-2.ensures, c.if-len.false) in
    let end : length c.args.slots.now ≤ c.loop-k.k = omega (arith, c.len-k-end.ensures, c.loop-k-test.false) in (
      all_go k c.args.floor c.args.slots.now c.args.new.now c.loop-k.k c.loop-k.freed size end c.loop-k.invariant,
      some_goes k c.args.floor c.args.slots.now c.args.new.now c.loop-k.k c.loop-k.freed end c.loop-k.invariant,
    )
