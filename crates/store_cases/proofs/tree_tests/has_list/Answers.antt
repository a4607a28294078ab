use Rattle.std.proofs.Common.{◌≡◌, Some, sym, ap, subst, ◌∙◌}
use Rattle.std.specs.List.{slice_get}
use Rattle.page_types.specs.Parts.{postings_shown}
use Rattle.page_types.specs.Views.{entries_in}
use Rattle.page_types.specs.declared.page.Body.{Body}
use Rattle.page_types.specs.declared.page.Entry.{Entry}
use Rattle.page_types.specs.declared.page.Postings.{Postings}
use Rattle.entry_tree.specs.Adding.{IsEntryLeaf, list_entry}
use Rattle.store_cases.proofs.tree_tests.has_list.Goals as goal

pub returns-in-Inline-clause-leaf : goal.returns-in-Inline-clause-leaf
returns-in-Inline-clause-leaf c t =
    subst IsEntryLeaf (sym c.in-EntryLeaf.is) (IsEntryLeaf.leaf c.in-EntryLeaf.high c.in-EntryLeaf.entries)

pub returns-in-Inline-clause-list : goal.returns-in-Inline-clause-list
returns-in-Inline-clause-list c t =
    let key = c.in-Some.entry.key.now in
    let list = c.in-Inline.field-0.now in
    let made : Postings → Entry = λ p. record { key = key; postings = p } in record {
      key = key;
      list = list;
      there =
          subst (λ (b : Body). slice_get (entries_in b) c.args.place ≡ Some (list_entry key list))
          (sym c.in-EntryLeaf.is)
          (c.in-Some.ensures.some ∙ ap (λ (p : Postings). Some (made p)) (ap postings_shown c.in-Inline.is));
    }
