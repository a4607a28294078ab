use Rattle.std.proofs.Common.{sym, subst, inl, inr}
use Rattle.entry_tree.specs.Finding.{IsEntryBody}
use Rattle.store_cases.proofs.entry_tests.is_entry_page.Goals as goal

pub returns-in-EntryLeaf : goal.returns-in-EntryLeaf
returns-in-EntryLeaf c t = elim c.in-EntryLeaf.is [
  | inl x ↦ subst IsEntryBody (sym x.2) (IsEntryBody.leaf x.0 x.1)
  | inr x ↦ subst IsEntryBody (sym x.1) (IsEntryBody.inner x.0)
]
