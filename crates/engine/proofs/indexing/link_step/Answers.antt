use Rattle.std.proofs.Common.{◌<◌, ◌++◌, ℕ, refl, sym, ap, subst, ◌∙◌, arith}
use Rattle.std.specs.Prelude.{Option, IsSome}
use Rattle.page_types.specs.Numbers.{page_limit}
use Rattle.page_types.specs.Parts.{head_shown}
use Rattle.page_types.specs.declared.page.Head.{Head}
use Rattle.page_types.specs.declared.record.Kind.TheVariants as kind
use Rattle.core_state.specs.Allowed.{Step}
use Rattle.core_state.specs.Steps.{sheet}
use Rattle.engine.specs.Inner.Indexing.{LeadsToRows, end_then}
use Rattle.engine.proofs.HeadChanges.{slot_below, one_left}
use Rattle.engine.proofs.RowPages.{rows_by, rows_lead_is}
use Rattle.engine.proofs.Linking.{end_are, link_step_is}
use Rattle.engine.proofs.indexing.link_step.Goals as goal

pub item_of-requires : goal.item_of-requires
item_of-requires c = (
  omega (arith, c.requires.page, c.number-number.ensures.value, c.number-number.ensures.bound),
  slot_below c.page-page.result.now c.args.name.slot (head_shown c.in-Some.found) c.page-page.ensures.is_page
      (sym c.in-Some.ensures),
)

pub leave_fields-requires : goal.leave_fields-requires
leave_fields-requires c = subst (λ (o : Option Head). IsSome o) c.in-Some.ensures refl

pub returns-clause-step : goal.returns-clause-step
returns-clause-step c =
    let e = c.args.end.now in
    let p = c.page-page.result.now in
    let f = c.in-Some.found.fields in
    let left = c.in_ok-leave_fields.ensures in
    let w : LeadsToRows p c.args.name.slot 0 left.new f.private =
    rows_by p c.args.name.slot 0 f c.in-Some.found.vector.now left.new c.in-Some.ensures left.changes in
    let zero : 0 < page_limit = omega arith in
    let new = rows_lead_is p left.new c.args.name.slot 0 f.private w c.page-page.ensures.is_page zero in
    link_step_is c.args.xid c.args.name c.args.heap.now.content p e c.args.last c.args.pages
    left.new f.private c.leave_end.new.step
    (omega (arith, c.requires.page, c.number-number.ensures.value, c.number-number.ensures.bound))
    c.page-page.ensures.value w c.page-page.ensures.is_page new
    (end_are e.meta e.first e.pages e.last f.private c.args.last c.args.pages
    (omega (arith, (c.requires.is_end).at)) (c.requires.is_end).is_page (c.requires.is_end).names
    (c.requires.is_end).last_is_page new.1 c.requires.low
    (omega (arith, (c.requires.is_end).few, c.requires.few)))
    (c.in_ok-leave_end.ensures
    ∙ ap (λ (s : Step). record s {
      after = s.after ++ end_then e.meta e.first e.pages e.last f.private c.args.last c.args.pages;
    })
    (one_left _ _ c.args.xid c.new-step.result c.leave_fields.new.step (sheet c.number-number.result left.new)
    c.args.name.page left.new
    c.new-step.ensures (ap (λ (i : ℕ). kind.LinkPending i c.args.name.serial) c.item_of.ensures)
    (ap (λ (k : ℕ). sheet k left.new) (c.number-number.ensures.value ∙ c.requires.page)) left.step_is))
