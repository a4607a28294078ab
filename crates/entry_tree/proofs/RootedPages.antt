-- A leaf with an entry that leads to a posting tree: how many bytes it has, that it has an encoding, and the entry
-- between the others.
use Rattle.std.proofs.Common.{◌≡◌, ℕ, zero, suc, ◌+◌, ◌<◌, ◌≤◌, List, [], ◌∷◌, ◌++◌, length, take, drop, sym}
use Rattle.std.proofs.Common.{ap, ◌∙◌, arith}
use Rattle.std.specs.Prelude.{Option, Some, None}
use Rattle.std.specs.List.{AllByRecursion, slice_get}
use Rattle.page_types.specs.Numbers.{most_body, page_limit}
use Rattle.page_types.specs.Keys.{KeyLess, Rising}
use Rattle.page_types.specs.Pages.{IsPage, IsBody, IsEntry, ArePostings}
use Rattle.page_types.specs.Encoding.{entry_bytes, body_bytes}
use Rattle.page_types.specs.Views.{with_postings, entries_in, list_in}
use Rattle.page_types.specs.declared.page.Page.{Page}
use Rattle.page_types.specs.declared.page.Entry.{Entry}
use Rattle.page_types.specs.declared.page.Postings.{Postings}
use Rattle.page_types.specs.declared.page.Postings.TheVariants.{Root}
use Rattle.page_types.specs.declared.page.Body.{Body}
use Rattle.page_types.specs.declared.page.Body.TheVariants as body
use Rattle.page_types.proofs.BodySizes.{length-entry_bytes, length-root}
use Rattle.entry_tree.specs.Reading.{upper_in}
use Rattle.entry_tree.specs.Adding.{IsEntryLeaf, list_entry, tree_entry}
use Rattle.entry_tree.specs.Rooting.{rooted}
use Rattle.entry_tree.proofs.FoundPlaces.{around}
use Rattle.entry_tree.proofs.EntryLists.{with_postings_at}
use Rattle.entry_tree.proofs.AddedPages.{fields_with, list_size, leaf_size, entries_size, many_fields}

-- ---- how many bytes it has

tree_size : (key : List ℕ) (root : ℕ) → length (entry_bytes (tree_entry key root)) ≡ 7 + length key
tree_size key root = omega (arith, length-entry_bytes (tree_entry key root), length-root root)

pub rooted_size : (content : Body) (place root : ℕ) (key list : List ℕ) → IsEntryLeaf content
    → slice_get (entries_in content) place ≡ Some (list_entry key list)
    → length (body_bytes (rooted content place root)) + length list ≡ length (body_bytes content) + 2
rooted_size _ place root key list (IsEntryLeaf.leaf high entries) at =
    let front = take place entries in
    let back = drop (suc place) entries in
    omega (
      arith,
      ap (λ (es : List Entry). length (body_bytes (body.EntryLeaf high es)))
          (around entries place (list_entry key list) at),
      ap (λ (es : List Entry). length (body_bytes (body.EntryLeaf high es)))
          (with_postings_at entries place (list_entry key list) (Root root) at),
      leaf_size high (front ++ list_entry key list ∷ back),
      leaf_size high (front ++ tree_entry key root ∷ back),
      fields_with front back (list_entry key list),
      fields_with front back (tree_entry key root),
      list_size key list,
      tree_size key root,
    )

pub list_within : (content : Body) (place : ℕ) (key list : List ℕ) → IsEntryLeaf content
    → slice_get (entries_in content) place ≡ Some (list_entry key list) → length list ≤ length (body_bytes content)
list_within _ place key list (IsEntryLeaf.leaf high entries) at = omega (
  arith,
  ap (λ (es : List Entry). length (body_bytes (body.EntryLeaf high es)))
      (around entries place (list_entry key list) at),
  entries_size high (take place entries) (drop (suc place) entries) key list,
)

-- the list that is there is the only one
pub list_short : (entries : List Entry) (place : ℕ) (key list k l : List ℕ)
    → slice_get entries place ≡ Some (list_entry key list) → slice_get entries place ≡ Some (list_entry k l)
    → length list < 2 → length l < 2
list_short entries place key list k l at there short =
    omega (arith, short, ap size_of (sym at ∙ there))
  where
    size_of : Option Entry → ℕ
    size_of None = 0
    size_of (Some e) = length (list_in e.postings)

-- ---- the page

-- what holds of the keys of entries still does
keys_still : (key : List ℕ) (entries : List Entry) (k : ℕ) (p : Postings)
    → AllByRecursion (λ (e : Entry). KeyLess key e.key) entries
    → AllByRecursion (λ (e : Entry). KeyLess key e.key) (with_postings entries k p)
keys_still key [] k p all = tt
keys_still key (e ∷ entries) zero p all = all
keys_still key (e ∷ entries) (suc k) p all = (all.0, keys_still key entries k p all.1)

rising_still : (entries : List Entry) (k : ℕ) (p : Postings) → Rising (λ d e. KeyLess d.key e.key) entries
    → Rising (λ d e. KeyLess d.key e.key) (with_postings entries k p)
rising_still [] k p rising = tt
rising_still (e ∷ entries) zero p rising = rising
rising_still (e ∷ entries) (suc k) p rising = (keys_still e.key entries k p rising.0, rising_still entries k p rising.1)

each_still : (entries : List Entry) (k : ℕ) (p : Postings) → ArePostings p → AllByRecursion IsEntry entries
    → AllByRecursion IsEntry (with_postings entries k p)
each_still [] k p are all = tt
each_still (e ∷ entries) zero p are all = (record { key = all.0.key; postings = are }, all.1)
each_still (e ∷ entries) (suc k) p are all = (all.0, each_still entries k p are all.1)

body_still : (right stamp : ℕ) (content : Body) (place root : ℕ) → IsEntryLeaf content → root < page_limit
    → IsBody right stamp content → IsBody right stamp (rooted content place root)
body_still right stamp _ place root (IsEntryLeaf.leaf high entries) within b = (
  b.0,
  record {
    each = each_still entries place (Root root) within b.1.each;
    rising = rising_still entries place (Root root) b.1.rising;
  },
)

pub rooted_page : (p : Page) (place root : ℕ) → IsPage p → IsEntryLeaf p.body → root < page_limit
    → length (body_bytes (rooted p.body place root)) ≤ most_body
    → IsPage (record p { body = rooted p.body place root })
rooted_page p place root page of_leaf within fits =
    let entries = with_postings (entries_in p.body) place (Root root) in
    record {
      right = page.right;
      stamp = page.stamp;
      body = body_still p.right p.stamp p.body place root of_leaf within page.body;
      count = omega (arith, fits, leaf_size (upper_in p.body) entries, many_fields entries);
      fits = fits;
    }

-- ---- the entry that leads to a tree, between the others

-- the leaf by its entry with this number
pub listed_is : (content : Body) (place : ℕ) (key list : List ℕ) → IsEntryLeaf content
    → slice_get (entries_in content) place ≡ Some (list_entry key list)
    → content ≡ body.EntryLeaf (upper_in content)
    (take place (entries_in content) ++ list_entry key list ∷ drop (suc place) (entries_in content))
listed_is _ place key list (IsEntryLeaf.leaf high entries) at =
    ap (λ (es : List Entry). body.EntryLeaf high es) (sym (around entries place (list_entry key list) at))

pub rooted_is : (content : Body) (place root : ℕ) (key list : List ℕ)
    → slice_get (entries_in content) place ≡ Some (list_entry key list)
    → rooted content place root ≡ body.EntryLeaf (upper_in content)
    (take place (entries_in content) ++ tree_entry key root ∷ drop (suc place) (entries_in content))
rooted_is content place root key list at =
    ap (λ (es : List Entry). body.EntryLeaf (upper_in content) es)
    (with_postings_at (entries_in content) place (list_entry key list) (Root root) at)
