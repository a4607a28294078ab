use Rattle.std.proofs.Common.{◌≡◌, Some, sym, ap, subst, ◌∙◌}
use Rattle.std.specs.List.{slice_get}
use Rattle.page_types.specs.Parts.{postings_shown}
use Rattle.page_types.specs.Views.{entries_in}
use Rattle.page_types.specs.declared.page.Body.{Body}
use Rattle.page_types.specs.declared.page.Entry.{Entry}
use Rattle.page_types.specs.declared.page.Postings.{Postings}
use Rattle.entry_tree.specs.Adding.{list_entry}
use Rattle.gin_place.proofs.rooting.list_at.Goals as goal

pub returns-in-Inline-clause-some : goal.returns-in-Inline-clause-some
returns-in-Inline-clause-some c =
    let key = c.in_ok-list.field-0.key.now in
    let made : Postings → Entry = λ p. record { key = key; postings = p } in (
      key,
      subst (λ (b : Body). slice_get (entries_in b) c.args.place ≡ Some (list_entry key c.in-Inline.list.now))
          (sym c.in-EntryLeaf.is)
          (c.in_ok-list.ensures.some ∙ ap (λ (p : Postings). Some (made p)) (ap postings_shown c.in-Inline.is)),
    )
