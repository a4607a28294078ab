use Rattle.std.proofs.Common.{refl, sym, ap, subst₂}
use Rattle.std.proofs.lemmas.Bool.{false≢true}
use Rattle.std.specs.Prelude.{Option, Some}
use Rattle.std.specs.Option.{option_map}
use Rattle.page_types.specs.Parts.{head_shown}
use Rattle.page_types.specs.declared.slots.HeadRef.{HeadRef}
use Rattle.core_state.specs.States.{known_by}
use Rattle.core_state.specs.VacuumRules.{SlotLoses}
use Rattle.core_vacuum.proofs.FreedSlots.{none_stays, head_stays, head_goes}
use Rattle.core_vacuum.proofs.freeing.slot_goes.Goals as goal

pub returns-in-Some-None : goal.returns-in-Some-None
returns-in-Some-None c =
    let k = known_by c.args.state.now.value in
    let a = head_shown c.in-Some-None.a in
    let floor = c.args.floor in
    let Goes = λ (x y : Option HeadRef). SlotLoses k floor (option_map head_shown x) (option_map head_shown y) in (
      λ e. subst₂ Goes (sym c.in-Some-None.is-0) (sym c.in-Some-None.is-1)
          (SlotLoses.freed a refl refl (c.may_be_freed.ensures.0 e)),
      λ w. c.may_be_freed.ensures.1 (head_goes k c.args.floor a
          (subst₂ Goes c.in-Some-None.is-0 c.in-Some-None.is-1 w)),
    )

pub returns-in-None-Some : goal.returns-in-None-Some
returns-in-None-Some c =
    let k = known_by c.args.state.now.value in
    let floor = c.args.floor in
    let Goes = λ (x y : Option HeadRef). SlotLoses k floor (option_map head_shown x) (option_map head_shown y) in (
      λ e. absurd (false≢true e),
      λ w. absurd (none_stays k floor (head_shown c.in-None-Some.field-0-1)
          (subst₂ Goes c.in-None-Some.is-0 c.in-None-Some.is-1 w)),
    )

pub returns-in-Some-Some : goal.returns-in-Some-Some
returns-in-Some-Some c =
    let k = known_by c.args.state.now.value in
    let a = head_shown c.in-Some-Some.a in
    let b = head_shown c.in-Some-Some.b in
    let floor = c.args.floor in
    let Goes = λ (x y : Option HeadRef). SlotLoses k floor (option_map head_shown x) (option_map head_shown y) in (
      λ e. subst₂ Goes (sym c.in-Some-Some.is-0) (sym c.in-Some-Some.is-1)
          (SlotLoses.same (ap Some (sym (c.is_same_head.ensures.0 e)))),
      λ w. c.is_same_head.ensures.1 (head_stays k floor a b
          (subst₂ Goes c.in-Some-Some.is-0 c.in-Some-Some.is-1 w)),
    )
