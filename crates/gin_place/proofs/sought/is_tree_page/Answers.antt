use Rattle.std.proofs.Common.{refl, sym, subst, inl, inr}
use Rattle.entry_tree.specs.Finding.{IsEntryBody}
use Rattle.posting_tree.specs.Reading.{IsPostBody}
use Rattle.gin_place.specs.Trees.{IsTreeBody}
use Rattle.gin_place.specs.declared.sought.Sought.{Sought}
use Rattle.gin_place.proofs.sought.is_tree_page.Goals as goal

pub returns-in-EntryLeaf : goal.returns-in-EntryLeaf
returns-in-EntryLeaf c =
    let is : IsEntryBody c.args.page.now.body = elim c.in-EntryLeaf.is [
      | inl x ↦ subst IsEntryBody (sym x.2) (IsEntryBody.leaf x.0 x.1)
      | inr x ↦ subst IsEntryBody (sym x.1) (IsEntryBody.inner x.0)
    ] in
    (λ t. subst (λ (s : Sought). IsTreeBody s c.args.page.now.body) (sym c.in-Key.is) is, λ b. refl)

pub returns-in-PostLeaf : goal.returns-in-PostLeaf
returns-in-PostLeaf c =
    let is : IsPostBody c.args.page.now.body = elim c.in-PostLeaf.is [
      | inl x ↦ subst IsPostBody (sym x.2) (IsPostBody.leaf x.0 x.1)
      | inr x ↦ subst IsPostBody (sym x.1) (IsPostBody.inner x.0)
    ] in
    (λ t. subst (λ (s : Sought). IsTreeBody s c.args.page.now.body) (sym c.in-Item.is) is, λ b. refl)
