-- What a session with the right of maintenance shows before it adds items to a leaf of a tree, or
-- takes a page of rows off the pending list: facts of the log that it has seen, with the pages P of
-- that log, and the pages that it holds. Such a step is valid after each log that is allowed to it.
use Rattle.std.specs.Prelude.{◌≡◌, ℕ, suc, ◌≤◌, List, [], ◌∷◌, ◌++◌, length}
use Rattle.ts_base.specs.Vectors.{Vector}
use Rattle.ts_base.specs.Keys.{Key}
use Rattle.page_types.specs.Numbers.{most_inline}
use Rattle.page_types.specs.Keys.{KeyLess}
use Rattle.page_types.specs.declared.page.Page.{Page}
use Rattle.page_types.specs.declared.page.Row.{Row}
use Rattle.page_types.specs.declared.page.Entry.{Entry}
use Rattle.page_types.specs.declared.page.Postings.TheVariants.{Inline}
use Rattle.page_types.specs.declared.page.Body.TheVariants as body
use Rattle.page_types.specs.declared.page.Gone.TheVariants as gone
use Rattle.page_types.specs.declared.record.Kind.TheVariants as kind
use Rattle.core_state.specs.Log.{Pages, In}
use Rattle.core_state.specs.Documents.{Doc, HasVector}
use Rattle.core_state.specs.Index.{AllMain}
use Rattle.core_state.specs.Changes.{UpTo, ItemUpTo}
use Rattle.core_state.specs.PendingRules.{IsLastAfter}
use Rattle.core_state.specs.TreeRules.{ItemsAdded, IsEntryBetween, IsAddItemsRest, IsAddPostingsRest}
use Rattle.core_state.specs.Allowed.{View, Step}
use Rattle.core_state.specs.Steps.{sheet}
use Rattle.core_maintenance.specs.Right.{HasRight}

-- the document of the item is whole, and all its keys are in the main part
abbrev pub IsAllMain : Pages → ℕ → Type 0
IsAllMain P i = (d : Doc) × (w : Vector) × (d.item ≡ i) × HasVector P d w × AllMain P i w

-- The first page of the pending list is deleted and keeps its rows; the metapage's first becomes its
-- right link. The document of each of its rows has all its keys in the main part.
pub record CanShift (v : View) (P : Pages) (s : Step) : Type 0 where
  pub page : ℕ
  pub last : ℕ
  pub count : ℕ
  pub new_last : ℕ
  pub rows : List Row
  pub meta : Page
  pub old : Page
  pub meta_then : Page
  pub new : Page
  pub kind_is : s.kind ≡ kind.Shift
  pub after_is : s.after ≡ sheet 0 meta_then ∷ sheet page new ∷ []
  pub may : HasRight v
  pub held_meta : In (sheet 0 meta) v.held
  pub held : In (sheet page old) v.held
  pub meta_is : meta.body ≡ body.Meta page last (suc count)
  pub was : old.body ≡ body.Pending rows
  pub moved : (w : Row) → In w rows → IsAllMain P w.item
  pub last_is : IsLastAfter old.right last new_last
  pub meta_right : meta_then.right ≡ meta.right
  pub meta_content : meta_then.body ≡ body.Meta old.right new_last count
  pub right : new.right ≡ old.right
  pub content : new.body ≡ body.Deleted (gone.Pending rows)

-- Items are added under one key within the high key of a leaf of the entry tree, to which the way
-- down for the key leads; each has a linked row with the key. The entry is made, at its place by key
-- order, where the key has none; its list fits.
pub record CanAddItems (v : View) (P : Pages) (s : Step) : Type 0 where
  pub page : ℕ
  pub key : Key
  pub items : List ℕ
  pub high : Key
  pub entries : List Entry
  pub front : List Entry
  pub back : List Entry
  pub old_list : List ℕ
  pub new_list : List ℕ
  pub old : Page
  pub new : Page
  pub kind_is : s.kind ≡ kind.AddItems
  pub after_is : s.after ≡ sheet page new ∷ []
  pub may : HasRight v
  pub held : In (sheet page old) v.held
  pub was : old.body ≡ body.EntryLeaf high entries
  pub within : UpTo key high
  pub entry : IsEntryBetween entries front back key old_list
  pub above : (e : Entry) → In e front → KeyLess e.key key
  pub below : (e : Entry) → In e back → KeyLess key e.key
  pub added : ItemsAdded old_list new_list items
  pub short : length new_list ≤ most_inline
  pub rest : IsAddItemsRest P key items page
  pub right : new.right ≡ old.right
  pub content : new.body
      ≡ body.EntryLeaf high (front ++ record { key = key; postings = Inline new_list } ∷ back)

-- Items within the high item of a posting leaf are added to it. The way down for each leads to it
-- from the root that some entry names, and each has a linked row with that entry's key.
pub record CanAddPostings (v : View) (P : Pages) (s : Step) : Type 0 where
  pub page : ℕ
  pub items : List ℕ
  pub high : ℕ
  pub old_list : List ℕ
  pub new_list : List ℕ
  pub old : Page
  pub new : Page
  pub kind_is : s.kind ≡ kind.AddPostings
  pub after_is : s.after ≡ sheet page new ∷ []
  pub may : HasRight v
  pub held : In (sheet page old) v.held
  pub was : old.body ≡ body.PostLeaf high old_list
  pub within : (i : ℕ) → In i items → ItemUpTo i high
  pub added : ItemsAdded old_list new_list items
  pub rest : IsAddPostingsRest P items page
  pub right : new.right ≡ old.right
  pub content : new.body ≡ body.PostLeaf high new_list
