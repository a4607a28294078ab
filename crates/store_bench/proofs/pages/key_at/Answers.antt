use Rattle.std.proofs.Common.{◌≡◌, Some, sym, ap, subst, ◌∙◌}
use Rattle.std.specs.List.{slice_get}
use Rattle.page_types.specs.Parts.{postings_shown}
use Rattle.page_types.specs.Views.{entries_in}
use Rattle.page_types.specs.declared.page.Body.{Body}
use Rattle.page_types.specs.declared.page.Entry.{Entry}
use Rattle.page_types.specs.declared.page.Postings.{Postings}
use Rattle.entry_tree.specs.Adding.{IsEntryLeaf, list_entry}
use Rattle.store_bench.proofs.pages.key_at.Goals as goal

pub returns-in-Inline-clause-leaf : goal.returns-in-Inline-clause-leaf
returns-in-Inline-clause-leaf c =
    subst IsEntryLeaf (sym c.in-EntryLeaf.is) (IsEntryLeaf.leaf c.in-EntryLeaf.high c.in-EntryLeaf.entries)

pub returns-in-Inline-clause-list : goal.returns-in-Inline-clause-list
returns-in-Inline-clause-list c =
    let key = c.in_ok-entry.entry.key.now in
    let made : Postings → Entry = λ p. record { key = key; postings = p } in (
      c.in-Inline.field-0.now,
      subst
          (λ (b : Body). slice_get (entries_in b) c.args.k ≡ Some (list_entry key c.in-Inline.field-0.now))
          (sym c.in-EntryLeaf.is)
          (c.in_ok-entry.ensures.some ∙ ap (λ (p : Postings). Some (made p)) (ap postings_shown c.in-Inline.is)),
    )
