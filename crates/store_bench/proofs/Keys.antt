-- An entry of a leaf that has a list of its own: its key is one, and no other entry has it.
use Rattle.std.proofs.Common.{◌≡◌, ℕ, zero, suc, List, [], ◌∷◌, sym, ap, subst, ◌∙◌, inl, inr}
use Rattle.std.specs.Prelude.{Some, None}
use Rattle.std.specs.List.{AllByRecursion, slice_get}
use Rattle.page_types.specs.Keys.{IsKey, KeyLess, Rising}
use Rattle.page_types.specs.Pages.{IsPage, IsBody, IsEntry, AreEntries}
use Rattle.page_types.specs.Views.{entries_in}
use Rattle.page_types.specs.declared.page.Page.{Page}
use Rattle.page_types.specs.declared.page.Entry.{Entry}
use Rattle.page_types.specs.declared.page.Postings.TheVariants.{Inline, Root}
use Rattle.page_types.specs.declared.page.Body.{Body}
use Rattle.core_state.specs.Log.{In}
use Rattle.core_state.proofs.Trees.Orders.{key_irrefl}
use Rattle.entry_tree.specs.Adding.{IsEntryLeaf, HasNoTree, list_entry, tree_entry}
use Rattle.entry_tree.specs.Finding.{IsEntryBody}

not_same : (a b : List ℕ) → KeyLess a b → a ≡ b → ⊥
not_same a b l e = key_irrefl b (subst (λ (k : List ℕ). KeyLess k b) e l)

all_in : (T : Entry → Type 0) (es : List Entry) (e : Entry) → AllByRecursion T es → In e es → T e
all_in T [] e all on = absurd on
all_in T (x ∷ es) e all (inl same) = subst T (sym same) all.0
all_in T (x ∷ es) e all (inr on) = all_in T es e all.1 on

all_at : (T : Entry → Type 0) (es : List Entry) (k : ℕ) (e : Entry) → AllByRecursion T es → slice_get es k ≡ Some e
    → T e
all_at T [] k e all at = let none : None ≡ Some e = at in let no : ⊥ = cc in absurd no
all_at T (x ∷ es) zero e all at = let there : Some x ≡ Some e = at in let same : x ≡ e = cc in subst T same all.0
all_at T (x ∷ es) (suc k) e all at = all_at T es k e all.1 at

not_both : (root : ℕ) (list : List ℕ) → Root root ≡ Inline list → ⊥
not_both root list e = cc

one_key : (es : List Entry) (k : ℕ) (key list : List ℕ) (root : ℕ) → Rising (λ (a b : Entry). KeyLess a.key b.key) es
    → slice_get es k ≡ Some (list_entry key list) → In (tree_entry key root) es → ⊥
one_key [] k key list root rise at on = on
one_key (x ∷ es) zero key list root rise at (inl e) =
    let there : Some x ≡ Some (list_entry key list) = at in
    let same : x ≡ list_entry key list = cc in
    not_both root list (ap (λ (d : Entry). d.postings) (e ∙ same))
one_key (x ∷ es) zero key list root rise at (inr on) =
    let there : Some x ≡ Some (list_entry key list) = at in
    let same : x ≡ list_entry key list = cc in
    not_same x.key key (all_in (λ (d : Entry). KeyLess x.key d.key) es (tree_entry key root) rise.0 on)
    (ap (λ (d : Entry). d.key) same)
one_key (x ∷ es) (suc k) key list root rise at (inl e) =
    not_same x.key key (all_at (λ (d : Entry). KeyLess x.key d.key) es k (list_entry key list) rise.0 at)
    (ap (λ (d : Entry). d.key) (sym e))
one_key (x ∷ es) (suc k) key list root rise at (inr on) = one_key es k key list root rise.1 at on

are_in : (right stamp : ℕ) (b : Body) → IsBody right stamp b → IsEntryLeaf b → AreEntries (entries_in b)
are_in right stamp _ is (IsEntryLeaf.leaf high entries) = is.1

pub of_entries : (b : Body) → IsEntryLeaf b → IsEntryBody b
of_entries _ (IsEntryLeaf.leaf high entries) = IsEntryBody.leaf high entries

module _ (p : Page) (k : ℕ) (key list : List ℕ) (is : IsPage p) (leaf : IsEntryLeaf p.body) where
  are : AreEntries (entries_in p.body)
  are = are_in p.right p.stamp p.body is.body leaf

  pub is_key : slice_get (entries_in p.body) k ≡ Some (list_entry key list) → IsKey key
  is_key at = (all_at IsEntry (entries_in p.body) k (list_entry key list) are.each at).key

  pub no_tree : slice_get (entries_in p.body) k ≡ Some (list_entry key list) → HasNoTree p.body key
  no_tree at root on = one_key (entries_in p.body) k key list root are.rising at on
