use Rattle.std.proofs.Common.{◌≡◌, length, sym, ap, ◌∙◌}
use Rattle.std.proofs.lemmas.Bool.{false≢true}
use Rattle.core_state.specs.States.{known_by}
use Rattle.core_vacuum.proofs.FreedSlots.{one_change, freed_told, freed_back}
use Rattle.core_vacuum.proofs.freeing.valid_free_slots.Goals as goal
use Rattle.core_vacuum.proofs.freeing.valid_free_slots.Goals.{then-before-ne1-via-then-before-ne1}
use Rattle.core_vacuum.proofs.freeing.valid_free_slots.Goals.{then-before-ne1-via-else-before-ne1+then-after-ne1}

pub returns-in_default : goal.returns-in_default
returns-in_default c = (λ e. absurd (false≢true e), λ w. absurd (c.in_default.not-FreeSlots w.kind_is))

pub returns-then-before-ne1 : goal.returns-then-before-ne1
returns-then-before-ne1 c = (
  λ e. absurd (false≢true e),
  λ w. elim c.then-before-ne1.branch [
    | then-before-ne1-via-then-before-ne1 v ↦ absurd (v.if-before-ne1.true (ap length w.before_is))
    | then-before-ne1-via-else-before-ne1+then-after-ne1 v ↦ absurd (v.if-after-ne1.true (ap length w.after_is))
    | goal.then-before-ne1-via-else-before-ne1+else-after-ne1+then-as_slice-ne1 v ↦ absurd (v.if-as_slice-ne1.true
        (ap length v.as_slice.ensures ∙ one_change c.args.rec.now.changes w.page w.pages))
  ],
)

pub returns : goal.returns
returns c =
    let k = known_by c.args.state.now.value in
    let one : length c.args.rec.now.changes ≡ 1 = ap length (sym c.as_slice.ensures) ∙ c.if-as_slice-ne1.false in (
      λ e. freed_told c.args.floor k c.args.rec.now c.index-before-0.result c.index-after-0.result c.args.before.now
          c.args.after.now c.in-FreeSlots.is one c.if-before-ne1.false c.if-after-ne1.false c.index-before-0.is
          c.index-after-0.is (c.leaves_slots.ensures.0 e),
      λ w. c.leaves_slots.ensures.1 (freed_back c.args.floor k c.args.rec.now c.index-before-0.result
          c.index-after-0.result c.args.before.now c.args.after.now c.index-before-0.is c.index-after-0.is w),
    )
