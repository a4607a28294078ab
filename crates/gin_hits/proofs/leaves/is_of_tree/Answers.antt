use Rattle.std.proofs.Common.{refl, sym, subst, inl, inr}
use Rattle.entry_tree.specs.Finding.{IsEntryBody}
use Rattle.gin_hits.proofs.leaves.is_of_tree.Goals as goal

pub returns-in-EntryLeaf : goal.returns-in-EntryLeaf
returns-in-EntryLeaf c = (
  (λ t. elim c.in-EntryLeaf.is [
    | inl e ↦ subst IsEntryBody (sym e.2) (IsEntryBody.leaf e.0 e.1)
    | inr e ↦ subst IsEntryBody (sym e.1) (IsEntryBody.inner e.0)
  ]),
  (λ b. refl),
)
