-- Leaves whose item lists lack some items.
use Rattle.std.specs.Prelude.{◌⊎◌, ℕ, List, [], ◌∷◌, ⊤}
use Rattle.std.specs.List.{Contains}
use Rattle.page_types.specs.Items.{items_of}
use Rattle.page_types.specs.Views.{entries_in, list_in, posting_items_in}
use Rattle.page_types.specs.declared.page.Entry.{Entry}
use Rattle.page_types.specs.declared.page.Body.{Body}
use Rattle.page_types.specs.declared.page.Body.TheVariants as body
use Rattle.core_state.specs.Log.{In}
use Rattle.posting_code.specs.Uniting.{IsLeft}
use Rattle.entry_tree.specs.Adding.{list_entry, tree_entry}

-- an entry whose list has all items of the old one but these, or that leads to a posting tree and stays as it was
pub data IsEntryLeft (gone : List ℕ) : Entry → Entry → Type 0 where
  listed : (key old new : List ℕ) → IsLeft old gone new → IsEntryLeft gone (list_entry key old) (list_entry key new)
  tree : (key : List ℕ) (root : ℕ) → IsEntryLeft gone (tree_entry key root) (tree_entry key root)

-- entry by entry: none comes and none goes, also where a list has no items left
abbrev pub AreEntriesLeft : List ℕ → List Entry → List Entry → Type 0
AreEntriesLeft gone [] [] = ⊤
AreEntriesLeft gone [] (f ∷ fs) = ⊥
AreEntriesLeft gone (e ∷ es) [] = ⊥
AreEntriesLeft gone (e ∷ es) (f ∷ fs) = IsEntryLeft gone e f × AreEntriesLeft gone es fs

-- a leaf of entries, or of a posting tree, whose lists have all items of the old ones but these
pub data IsLeafLeft (gone : List ℕ) : Body → Body → Type 0 where
  entries : (high : List ℕ) (old new : List Entry) → AreEntriesLeft gone old new
      → IsLeafLeft gone (body.EntryLeaf high old) (body.EntryLeaf high new)
  postings : (high : ℕ) (old new : List ℕ) → IsLeft old gone new
      → IsLeafLeft gone (body.PostLeaf high old) (body.PostLeaf high new)

-- an item is in a list of a leaf: in one of an entry, or in that of a posting tree's leaf
abbrev pub IsListed : Body → ℕ → Type 0
IsListed content i = ((e : Entry) × In e (entries_in content) × Contains (items_of (list_in e.postings)) i)
    ⊎ Contains (posting_items_in content) i

-- none of some items is in a list
abbrev pub HasNone : List ℕ → List ℕ → Type 0
HasNone gone list = (i : ℕ) → Contains (items_of list) i → Contains gone i → ⊥
