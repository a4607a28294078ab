use Rattle.std.proofs.Common.{sym, subst}
use Rattle.page_types.specs.Views.{entries_in}
use Rattle.page_types.specs.declared.page.Body.{Body}
use Rattle.core_state.specs.Log.{In}
use Rattle.entry_tree.specs.Adding.{IsEntryLeaf, tree_entry}
use Rattle.store_cases.proofs.entry_tests.is_leaf_for.Goals as goal

pub returns-in-EntryLeaf-clause-leaf : goal.returns-in-EntryLeaf-clause-leaf
returns-in-EntryLeaf-clause-leaf c t =
    subst IsEntryLeaf (sym c.in-EntryLeaf.is) (IsEntryLeaf.leaf c.in-EntryLeaf.high c.in-EntryLeaf.entries)

pub returns-in-EntryLeaf-clause-no_tree : goal.returns-in-EntryLeaf-clause-no_tree
returns-in-EntryLeaf-clause-no_tree c t root on =
    c.none_leads_down.ensures t root
    (subst (λ (b : Body). In (tree_entry c.args.key.now root) (entries_in b)) c.in-EntryLeaf.is on)
