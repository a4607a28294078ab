use Rattle.std.proofs.Common.{◌≡◌, List, refl, sym, ◌∙◌, subst, inl, inr, arith}
use Rattle.std.proofs.lemmas.Bool.{false≢true}
use Rattle.std.proofs.lemmas.Bool.Decides.{nat_tests}
use Rattle.std.specs.Prelude.{Option}
use Rattle.page_types.specs.declared.page.Head.{Head}
use Rattle.core_state.specs.Changes.{IsNew}
use Rattle.core_state.specs.States.{use_of}
use Rattle.core_state.specs.Inner.Placing.{PlacesHead}
use Rattle.core_state.proofs.PlacedHeads.{OnOld, leaves_old, leaves_new, leaves_back, same_heap}
use Rattle.core_state.proofs.placing.leaves_head.Goals as goal
use Rattle.core_state.proofs.placing.leaves_head.Goals.{in-Heap-body+else-new-old}
use Rattle.core_state.proofs.placing.leaves_head.Goals.{else-new-old-via-then-new-old+else-places_head}
use Rattle.core_state.proofs.placing.leaves_head.Goals.{else-new-old-via-else-new-old, in_default-body, then-new-eq0}
use Rattle.core_state.proofs.placing.leaves_head.Goals.{else-new-eq0}

pub returns-then-places_head : goal.returns-then-places_head
returns-then-places_head c = (
  λ e. leaves_old (use_of c.args.state.now.value) c.args.since c.args.rec.now c.args.name c.args.old.now
      c.args.new.now c.in-Heap-body.slots c.in-Heap.new_slots c.in-Heap-body.is c.in-Heap.is
      c.if-new-rec.false c.if-new-old.true (c.places_head.ensures.0 c.if-places_head.true),
  λ w. refl,
)

pub returns-then-is_new : goal.returns-then-is_new
returns-then-is_new c =
    let places = λ (s : List (Option Head)). PlacesHead s c.args.name.slot c.in-Heap.new_slots c.args.name.serial
    c.args.rec.now.xid in
    let right : c.args.new.now.right ≡ 0 = elim c.if-new-eq0.branch [
      | then-new-eq0 w ↦ w.if-new-eq0.true
      | else-new-eq0 w ↦ grind (arith, nat_tests, sym w.value-is ∙ c.if-is_new.true)
    ] in
    let is_new : IsNew (use_of c.args.state.now.value) c.args.since c.args.name.page = elim c.if-new-eq0.branch [
      | then-new-eq0 w ↦ w.is_new.ensures.0 (sym w.value-is ∙ c.if-is_new.true)
      | else-new-eq0 w ↦ absurd (w.if-new-eq0.false right)
    ] in
    let not_old : OnOld c.args.rec.now c.args.name c.args.old.now c.args.new.now c.in-Heap.new_slots
    → ⊥ = λ o. elim c.match-old.branch [
      | in-Heap-body+else-new-old w ↦ elim w.else-new-old.branch [
        | else-new-old-via-then-new-old+else-places_head v ↦
            false≢true (sym v.if-places_head.false
            ∙ v.places_head.ensures.1
            (subst places (same_heap o.slots w.in-Heap-body.slots c.args.old.now.body o.was w.in-Heap-body.is)
            o.places))
        | else-new-old-via-else-new-old v ↦ v.if-new-old.false o.right
      ]
      | in_default-body w ↦ w.in_default-body.not-Heap o.slots o.was
    ] in (
      λ e. leaves_new (use_of c.args.state.now.value) c.args.since c.args.rec.now c.args.name c.args.old.now
          c.args.new.now c.in-Heap.new_slots c.in-Heap.is c.if-new-rec.false right is_new
          (subst places c.new.ensures (c.places_head-then-is_new-2.ensures.0 e)),
      λ w. elim (leaves_back (use_of c.args.state.now.value) c.args.since c.args.rec.now c.args.name c.args.old.now
          c.args.new.now c.in-Heap.new_slots c.in-Heap.is w) [
            | inl o ↦ absurd (not_old o)
            | inr o ↦ c.places_head-then-is_new-2.ensures.1 (subst places (sym c.new.ensures) o.places)
          ],
    )

pub returns-else-is_new : goal.returns-else-is_new
returns-else-is_new c =
    let places = λ (s : List (Option Head)). PlacesHead s c.args.name.slot c.in-Heap.new_slots c.args.name.serial
    c.args.rec.now.xid in
    let not_old : OnOld c.args.rec.now c.args.name c.args.old.now c.args.new.now c.in-Heap.new_slots
    → ⊥ = λ o. elim c.match-old.branch [
      | in-Heap-body+else-new-old w ↦ elim w.else-new-old.branch [
        | else-new-old-via-then-new-old+else-places_head v ↦
            false≢true (sym v.if-places_head.false
            ∙ v.places_head.ensures.1
            (subst places (same_heap o.slots w.in-Heap-body.slots c.args.old.now.body o.was w.in-Heap-body.is)
            o.places))
        | else-new-old-via-else-new-old v ↦ v.if-new-old.false o.right
      ]
      | in_default-body w ↦ w.in_default-body.not-Heap o.slots o.was
    ] in (
      λ e. absurd (false≢true (sym c.if-is_new.false ∙ e)),
      λ w. elim (leaves_back (use_of c.args.state.now.value) c.args.since c.args.rec.now c.args.name c.args.old.now
          c.args.new.now c.in-Heap.new_slots c.in-Heap.is w) [
            | inl o ↦ absurd (not_old o)
            | inr o ↦ elim c.if-new-eq0.branch [
              | then-new-eq0 v ↦ v.value-is ∙ v.is_new.ensures.1 o.unused
              | else-new-eq0 v ↦ absurd (v.if-new-eq0.false o.right)
            ]
          ],
    )
