-- Items that a list takes, and where the entries of two leaves differ.
use Rattle.std.specs.Prelude.{◌≡◌, ◌⊎◌, ℕ, suc, Bool, true, false, List, [], ◌∷◌, ◌++◌, Some}
use Rattle.std.specs.Prelude.{Ok, Err}
use Rattle.std.specs.List.{slice_get}
use Rattle.ts_base.specs.Keys.{Key}
use Rattle.page_types.specs.Numbers.{item_limit}
use Rattle.page_types.specs.Items.{items_of}
use Rattle.page_types.specs.ItemReading.{item_at}
use Rattle.page_types.specs.declared.page.Page.{Page}
use Rattle.page_types.specs.declared.page.Entry.{Entry}
use Rattle.page_types.specs.declared.page.Postings.TheVariants.{Inline}
use Rattle.page_types.specs.declared.page.Body.TheVariants as body
use Rattle.page_types.specs.declared.record.Record.{Record}
use Rattle.core_state.specs.Log.{In}
use Rattle.core_state.specs.Changes.{made_with, UpTo, ItemUpTo}
use Rattle.core_state.specs.TreeRules.{IsEntryBetween}

-- the next item of a list after the item `last`, and the bytes after it; the limit of items where there is none
pub data IsFirstItem (last : ℕ) (bytes : List ℕ) : ℕ → List ℕ → Type 0 where
  found : (item : ℕ) (rest : List ℕ) → item_at last bytes ≡ Ok (item, rest) → IsFirstItem last bytes item rest
  none : (left : ℕ) (rest : List ℕ) → item_at last bytes ≡ Err left → IsFirstItem last bytes item_limit rest

-- The new items have the old ones, and more, unless one more was met before; each of those is up to
-- this high item.
pub record TakesItems (high : ℕ) (met : Bool) (old new : List ℕ) : Type 0 where
  pub kept : (i : ℕ) → In i old → In i new
  pub more : (met ≡ true) ⊎ ((i : ℕ) × In i new × (In i old → ⊥))
  pub within : (i : ℕ) → In i new → (In i old → ⊥) → ItemUpTo i high

-- an item list has the items of another, and more, each of those up to this high item
abbrev pub Takes : ℕ → List ℕ → List ℕ → Type 0
Takes high old new = TakesItems high false (items_of old) (items_of new)

-- the item list of the entry with this key at this place, and the place after it; of a key that comes new no bytes,
-- and the place
pub data HadList (old : List Entry) (k : ℕ) (key : Key) : Bool → List ℕ → ℕ → Type 0 where
  comes : HadList old k key true [] k
  was : (list : List ℕ) (next : ℕ) → slice_get old k ≡ Some (record { key = key; postings = Inline list })
      → next ≡ suc k → HadList old k key false list next

-- an entry with a key up to this high key takes items, or comes with some, and the others stay
pub record TakesEntry (high : Key) (old new : List Entry) : Type 0 where
  pub key : Key
  pub front : List Entry
  pub back : List Entry
  pub old_list : List ℕ
  pub new_list : List ℕ
  pub within : UpTo key high
  pub entry : IsEntryBetween old front back key old_list
  pub takes : Takes 0 old_list new_list
  pub after : new ≡ front ++ record { key = key; postings = Inline new_list } ∷ back

-- a record leaves a leaf of the entry tree, with these entries, as it was but for other entries
pub record LeafLeft (r : Record) (old new : Page) (high : Key) (entries then : List Entry) : Type 0 where
  pub was : old.body ≡ body.EntryLeaf high entries
  pub after : new ≡ made_with r old.right (body.EntryLeaf high then)

-- a record leaves a leaf of the entry tree with items added under a key
pub record LeavesEntries (r : Record) (old new : Page) : Type 0 where
  pub high : Key
  pub entries : List Entry
  pub then : List Entry
  pub left : LeafLeft r old new high entries then
  pub takes : TakesEntry high entries then

-- a record leaves a leaf of a posting tree with items added up to its high item
pub record LeavesPostings (r : Record) (old new : Page) : Type 0 where
  pub high : ℕ
  pub old_list : List ℕ
  pub new_list : List ℕ
  pub was : old.body ≡ body.PostLeaf high old_list
  pub takes : Takes high old_list new_list
  pub after : new ≡ made_with r old.right (body.PostLeaf high new_list)
