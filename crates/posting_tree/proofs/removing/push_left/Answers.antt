use Rattle.std.proofs.Common.{◌≡◌, refl, sym, ap, subst}
use Rattle.page_types.specs.Parts.{postings_shown, entry_shown}
use Rattle.page_types.specs.Views.{list_in}
use Rattle.page_types.specs.declared.page.Postings.{Postings}
use Rattle.page_types.specs.declared.page.Postings.TheVariants.{Inline}
use Rattle.posting_code.specs.Uniting.{IsLeft}
use Rattle.entry_tree.specs.Adding.{list_entry}
use Rattle.posting_tree.specs.Removing.{HasNone}
use Rattle.posting_tree.proofs.LeftPages.{shown_left, shown_same, root_none}
use Rattle.posting_tree.proofs.removing.push_left.Goals as goal

pub returns-in_ok-push_list-in-Inline-clause-left : goal.returns-in_ok-push_list-in-Inline-clause-left
returns-in_ok-push_list-in-Inline-clause-left c =
    let items = c.in-Inline.items.now in
    let shown : postings_shown c.args.entry.postings ≡ Inline items = ap postings_shown c.in-Inline.is in
    let left = subst (IsLeft items c.args.dead.now) (sym c.as_slice.ensures.value)
    c.in_ok-same-in-Inline.ensures.left in (
      list_entry c.args.entry.key.now c.as_slice.result.now,
      c.in_ok-push_list-in-Inline.ensures,
      shown_left c.args.dead.now c.args.entry.key.now items c.as_slice.result.now
          (postings_shown c.args.entry.postings) shown left,
    )

pub returns-in_ok-push_list-in-Inline-clause-same : goal.returns-in_ok-push_list-in-Inline-clause-same
returns-in_ok-push_list-in-Inline-clause-same c =
    let shown : postings_shown c.args.entry.postings ≡ Inline c.in-Inline.items.now =
    ap postings_shown c.in-Inline.is in (
      λ b. subst (λ (p : Postings). HasNone c.args.dead.now (list_in p)) (sym shown)
          (c.in_ok-same-in-Inline.ensures.same.0 b),
      λ h. c.in_ok-same-in-Inline.ensures.same.1
          (subst (λ (p : Postings). HasNone c.args.dead.now (list_in p)) shown h),
    )

pub returns-in_ok-push-in-Root-clause-left : goal.returns-in_ok-push-in-Root-clause-left
returns-in_ok-push-in-Root-clause-left c = (
  entry_shown c.args.entry,
  c.in_ok-push-in-Root.ensures.ok,
  shown_same c.args.dead.now c.args.entry.key.now c.in-Root.field-0 (postings_shown c.args.entry.postings)
      (ap postings_shown c.in-Root.is),
)

pub returns-in_ok-push-in-Root-clause-same : goal.returns-in_ok-push-in-Root-clause-same
returns-in_ok-push-in-Root-clause-same c = (
  λ e. root_none c.args.dead.now c.in-Root.field-0 (postings_shown c.args.entry.postings)
      (ap postings_shown c.in-Root.is),
  λ h. refl,
)
