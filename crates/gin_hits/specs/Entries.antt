-- What is noted of entries of the tree.
use Rattle.std.specs.Prelude.{◌≡◌, ℕ, Bool, List, [], ◌∷◌, ◌++◌, map}
use Rattle.std.specs.List.{filter, flat_map}
use Rattle.ts_base.specs.Keys.{Key}
use Rattle.page_types.specs.Items as lists
use Rattle.page_types.specs.Views.{entries_of, list_in}
use Rattle.page_types.specs.declared.page.Entry.{Entry}
use Rattle.page_types.specs.declared.page.Body.{Body}
use Rattle.page_types.specs.declared.page.Body.TheVariants.{PostLeaf}
use Rattle.core_state.specs.Log.{In}
use Rattle.core_state.specs.Readings.{Read}
use Rattle.entry_tree.specs.Adding.{list_entry}
use Rattle.gin_opclass.specs.Class.{Asked}
use Rattle.core_moments.specs.Walk.{Sought, KeyWalk, LeafRead, fits}
use Rattle.core_moments.specs.OpenWalk.{NamedTree, AreOfTrees, trees_on}
use Rattle.core_moments.specs.Judging.{fits_asked}
use Rattle.gin_hits.specs.Rows.{lists_of}
use Rattle.gin_hits.specs.declared.hits.Hits.{Hits}

-- the items that are in an entry, none where they are in a posting tree
abbrev pub listed : Entry → List ℕ
listed e = lists.items_of (list_in e.postings)

-- the entries whose keys pass a test, in their order
abbrev pub entries_with : (Key → Bool) → List Entry → List Entry
entries_with test es = filter (λ (e : Entry). test e.key) es

-- the items of these entries, entry by entry
abbrev pub items_under : List Entry → List ℕ
items_under es = flat_map listed es

-- the items of these entries, and for each key that is asked those of the entries whose key fits it
pub record AreNotedUnder (asked : List Asked) (es : List Entry) (h : Hits) : Type 0 where
  pub any : h.any.items ≡ items_under es
  pub by_key : lists_of h ≡ map (λ (a : Asked). items_under (entries_with (fits_asked a) es)) asked

-- ── posting trees ──

-- the item list of a leaf of a posting tree
abbrev pub posting_list_in : Body → List ℕ
posting_list_in (PostLeaf high items) = items
posting_list_in _ = []

-- what a page of a posting tree has of the items of a key, as an entry that has them in a list
abbrev pub posting_entry : Key → Read → Entry
posting_entry k x = list_entry k (posting_list_in x.content.body)

-- so of the pages that were read of these trees
abbrev pub entries_in_trees : List NamedTree → List (List Read) → List Entry
entries_in_trees [] ts = []
entries_in_trees (r ∷ rs) [] = []
entries_in_trees (r ∷ rs) (t ∷ ts) = map (posting_entry r.key) t ++ entries_in_trees rs ts

-- ── walks ──

-- the entries of a leaf that fit what is sought, and then those for the pages of the trees that they name
abbrev pub entries_under : Sought → LeafRead → List Entry
entries_under s l =
    entries_with (fits s) (entries_of l.leaf.content)
    ++ entries_in_trees (trees_on s (entries_of l.leaf.content)) l.trees

-- those of these leaves
abbrev pub entries_on : Sought → List LeafRead → List Entry
entries_on s ls = flat_map (entries_under s) ls

-- those of all these walks
abbrev pub entries_read : List KeyWalk → List Entry
entries_read ks = flat_map (λ (k : KeyWalk). entries_on k.sought k.leaves) ks

-- each leaf of these walks has such reads of each tree that its entries name
abbrev pub HaveTrees : (ℕ → List Read → Type 0) → List KeyWalk → Type 0
HaveTrees Is ks =
    (k : KeyWalk) (l : LeafRead) → In k ks → In l k.leaves
    → AreOfTrees Is (trees_on k.sought (entries_of l.leaf.content)) l.trees
