-- The list that becomes the first leaf of a posting tree, and the step of the two pages.
use Rattle.std.proofs.Common.{◌≡◌, ◌≤◌, ℕ, zero, suc, List, [], ◌∷◌, Some, length, ap, ap₂, subst, ◌∙◌}
use Rattle.std.specs.List.{AllByRecursion, slice_get}
use Rattle.std.proofs.lemmas.Option.{same_Some}
use Rattle.page_types.specs.Items.{IsItemList}
use Rattle.page_types.specs.Numbers.{most_inline}
use Rattle.page_types.specs.Pages.{IsPage, IsBody, IsEntry}
use Rattle.page_types.specs.Views.{entries_in}
use Rattle.page_types.specs.declared.page.Page.{Page}
use Rattle.page_types.specs.declared.page.Entry.{Entry}
use Rattle.page_types.specs.declared.page.Body.{Body}
use Rattle.page_types.specs.declared.record.Kind.TheVariants as kind
use Rattle.core_state.specs.Allowed.{Sheet, Step}
use Rattle.core_state.specs.Steps.{sheet}
use Rattle.entry_tree.specs.Adding.{IsEntryLeaf, list_entry}
use Rattle.entry_tree.specs.Rooting.{rooted}
use Rattle.posting_tree.specs.Adding.{first_leaf}
use Rattle.gin_place.specs.Inner.Logging.{IsTreeStep}

entry_at : (entries : List Entry) (place : ℕ) (e : Entry) → AllByRecursion IsEntry entries
    → slice_get entries place ≡ Some e → IsEntry e
entry_at [] place e all at = absurd (let z : ⊥ = cc in z)
entry_at (d ∷ entries) zero e all at = subst IsEntry (same_Some d e at) all.0
entry_at (d ∷ entries) (suc place) e all at = entry_at entries place e all.1 at

list_of : (right stamp : ℕ) (content : Body) (place : ℕ) (key list : List ℕ) → IsEntryLeaf content
    → IsBody right stamp content → slice_get (entries_in content) place ≡ Some (list_entry key list)
    → (length list ≤ most_inline) × IsItemList list
list_of right stamp _ place key list (IsEntryLeaf.leaf high entries) is at =
    (entry_at entries place (list_entry key list) is.1.each at).postings

-- a list in an entry is a list of items, and not too long
pub entry_list : (c : Page) (place : ℕ) (key list : List ℕ) → IsPage c → IsEntryLeaf c.body
    → slice_get (entries_in c.body) place ≡ Some (list_entry key list)
    → (length list ≤ most_inline) × IsItemList list
entry_list c place key list is of_leaf at = list_of c.right c.stamp c.body place key list of_leaf is.body at

-- the step of these two pages
pub tree_made : (place : ℕ) (old new : Sheet) (key list : List ℕ) (named tree : Page) (s : Step)
    → slice_get (entries_in old.content.body) place ≡ Some (list_entry key list) → IsEntryLeaf old.content.body
    → named ≡ record old.content { body = rooted old.content.body place new.page } → tree ≡ first_leaf list
    → IsPage named × IsPage tree
    → s ≡ record { kind = kind.MakeTree; xid = 0; after = sheet old.page named ∷ sheet new.page tree ∷ [] }
    → IsTreeStep place old new s
tree_made place old new key list named tree s there of_leaf is is_leaf pages made = record {
  key = key;
  list = list;
  there = there;
  leaf = of_leaf;
  kind_is = ap (λ (t : Step). t.kind) made;
  xid = ap (λ (t : Step). t.xid) made;
  after_is = ap (λ (t : Step). t.after) made
      ∙ ap₂ (λ (a b : Page). sheet old.page a ∷ sheet new.page b ∷ []) is is_leaf;
  pages = (subst IsPage is pages.0, subst IsPage is_leaf pages.1);
}
