use Rattle.std.proofs.Common.{◌≡◌, length, refl, sym, ap, ◌∙◌, inl, inr}
use Rattle.std.proofs.lemmas.Bool.{false≢true}
use Rattle.core_state.specs.States.{known_by}
use Rattle.core_vacuum.proofs.FreedSlots.{one_change}
use Rattle.core_vacuum.proofs.GoneItems.{one_page, page_at, entries_told, list_told, gone_back}
use Rattle.core_vacuum.proofs.removing.valid_remove_items.Goals as goal
use Rattle.core_vacuum.proofs.removing.valid_remove_items.Goals.{then-before-ne1-via-then-before-ne1}
use Rattle.core_vacuum.proofs.removing.valid_remove_items.Goals.{then-before-ne1-via-else-before-ne1+then-after-ne1}

pub returns-in_default : goal.returns-in_default
returns-in_default c = (λ e. absurd (false≢true e), λ w. absurd (c.in_default.not-RemoveItems w.kind_is))

pub returns-then-before-ne1 : goal.returns-then-before-ne1
returns-then-before-ne1 c = (
  λ e. absurd (false≢true e),
  λ w. elim c.then-before-ne1.branch [
    | then-before-ne1-via-then-before-ne1 v ↦ absurd (v.if-before-ne1.true (ap length w.before_is))
    | then-before-ne1-via-else-before-ne1+then-after-ne1 v ↦ absurd (v.if-after-ne1.true (ap length w.after_is))
    | goal.then-before-ne1-via-else-before-ne1+else-after-ne1+then-as_slice-ne1 v ↦ absurd (v.if-as_slice-ne1.true
        (ap length v.as_slice.ensures ∙ one_change c.args.rec.now.changes w.page w.pages))
  ],
)

pub leaves_entries-requires : goal.leaves_entries-requires
leaves_entries-requires c = record {
  old = page_at c.args.before.now c.index-before-0.result c.requires.before c.if-before-ne1.false c.index-before-0.is;
  new = page_at c.args.after.now c.index-after-0.result c.requires.after c.if-after-ne1.false c.index-after-0.is;
}

pub returns-then-leaves_entries : goal.returns-then-leaves_entries
returns-then-leaves_entries c =
    let r = c.args.rec.now in
    let old = c.index-before-0.result in
    let new = c.index-after-0.result in
    let one : length r.changes ≡ 1 = ap length (sym c.as_slice.ensures) ∙ c.if-as_slice-ne1.false in (
      λ e. entries_told (known_by c.args.state.now.value) r old new c.args.before.now c.args.after.now
          (one_page r old new c.args.before.now c.args.after.now c.in-RemoveItems.is one c.if-before-ne1.false
          c.if-after-ne1.false c.index-before-0.is c.index-after-0.is)
          (page_at c.args.after.now new c.requires.after c.if-after-ne1.false c.index-after-0.is)
          (c.leaves_entries.ensures.0 c.if-leaves_entries.true),
      λ w. refl,
    )

pub leaves_list-requires : goal.leaves_list-requires
leaves_list-requires c = record {
  old = page_at c.args.before.now c.index-before-0.result c.requires.before c.if-before-ne1.false c.index-before-0.is;
  new = page_at c.args.after.now c.index-after-0.result c.requires.after c.if-after-ne1.false c.index-after-0.is;
}

pub returns : goal.returns
returns c =
    let k = known_by c.args.state.now.value in
    let r = c.args.rec.now in
    let old = c.index-before-0.result in
    let new = c.index-after-0.result in
    let one : length r.changes ≡ 1 = ap length (sym c.as_slice.ensures) ∙ c.if-as_slice-ne1.false in (
      λ e. list_told k r old new c.args.before.now c.args.after.now
          (one_page r old new c.args.before.now c.args.after.now c.in-RemoveItems.is one c.if-before-ne1.false
          c.if-after-ne1.false c.index-before-0.is c.index-after-0.is)
          (page_at c.args.after.now new c.requires.after c.if-after-ne1.false c.index-after-0.is)
          (c.leaves_list.ensures.0 e),
      λ w. elim (gone_back k r old new c.args.before.now c.args.after.now c.index-before-0.is c.index-after-0.is w) [
        | inl v ↦ absurd (false≢true (sym c.if-leaves_entries.false ∙ c.leaves_entries.ensures.1 v))
        | inr v ↦ c.leaves_list.ensures.1 v
      ],
    )
