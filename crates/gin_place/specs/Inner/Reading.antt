-- What a page says of items that are to come under a key.
use Rattle.std.specs.Prelude.{◌≡◌, ℕ, ◌<◌, ◌≤◌, List, [], length, take, Some, ⊤}
use Rattle.std.specs.List.{slice_get, Contains}
use Rattle.page_types.specs.Items.{items_of, AreItems}
use Rattle.page_types.specs.Keys.{IsKey}
use Rattle.page_types.specs.Pages.{IsPage}
use Rattle.page_types.specs.Views.{entries_in}
use Rattle.page_types.specs.declared.page.Page.{Page}
use Rattle.page_types.specs.declared.page.Body.{Body}
use Rattle.core_state.specs.Log.{In}
use Rattle.core_state.specs.Changes.{UpTo}
use Rattle.entry_tree.specs.Adding.{IsEntryLeaf, list_entry, tree_entry, HasNoTree, IsAdded}
use Rattle.entry_tree.specs.Finding.{IsEntryBody, IsFound}
use Rattle.entry_tree.specs.Logging.{IsNewUnder}
use Rattle.entry_tree.specs.Reading.{upper_in, HasRoomForChild}
use Rattle.entry_tree.specs.declared.adding.Added.TheVariants as added
use Rattle.entry_tree.specs.declared.finding.Found.TheVariants as found
use Rattle.gin_place.specs.Trees.{HasRoomIn}
use Rattle.gin_place.specs.declared.sought.Sought.{Sought}
use Rattle.gin_place.specs.declared.reading.Next.TheVariants as next
use Rattle.gin_place.specs.declared.reading.Reading.{Reading}
use Rattle.gin_place.specs.declared.reading.Reading.TheVariants as reading

-- what reading takes: a page, a key, and items that are to come under it
pub record IsAsked (c : Page) (k come : List ℕ) : Type 0 where
  pub page : IsPage c
  pub key : IsKey k
  pub items : AreItems come

-- the list of the key has the item
pub record HasItem (content : Body) (key : List ℕ) (i : ℕ) : Type 0 where
  pub list : List ℕ
  pub entry : In (list_entry key list) (entries_in content)
  pub item : In i (items_of list)

-- one of the items at least is in no list of the key
abbrev pub HasFresh : Body → List ℕ → List ℕ → Type 0
HasFresh content key items = (i : ℕ) × Contains items i × IsNewUnder content key i

-- the entry of the key, which has this number, has its items in a list of two bytes or more
pub record IsLongAt (c : Page) (key : List ℕ) (place : ℕ) : Type 0 where
  pub page : IsPage c
  pub leaf : IsEntryLeaf c.body
  pub list : List ℕ
  pub there : slice_get (entries_in c.body) place ≡ Some (list_entry key list)
  pub two : 2 ≤ length list

-- the key has no entry here, and the list is empty; or its entry has this list, of fewer than two bytes
pub data IsShortList (c : Page) (key : List ℕ) : List ℕ → Type 0 where
  none : (place : ℕ) → IsFound c key (found.Absent place) → IsShortList c key []
  short : (place : ℕ) (list : List ℕ) → IsFound c key (found.Here place)
      → slice_get (entries_in c.body) place ≡ Some (list_entry key list) → length list < 2 → IsShortList c key list

-- The way goes on to a child, or to the key's posting tree; all items are under the key; the leaf with the first of
-- them, which are all or as many as its list takes; no room for a child more, or for the items; the list, of two
-- bytes or more, would be too long; or the key has no place on the page.
pub data IsReading (c : Page) (key items : List ℕ) : Reading → Type 0 where
  down : (child : ℕ) → IsEntryBody c.body → IsFound c key (found.Down child)
      → IsReading c key items (reading.On (next.Down child))
  tree : (root : ℕ) → In (tree_entry key root) (entries_in c.body) → IsReading c key items (reading.On (next.Tree root))
  stand : (n : ℕ) → n ≡ length items → ((i : ℕ) → In i items → HasItem c.body key i)
      → IsReading c key items (reading.On (next.Stand n))
  more : (p : Page) (n : ℕ) → IsEntryLeaf c.body → 0 < n → n ≤ length items
      → IsAdded c key (take n items) (added.Done p)
      → UpTo key (upper_in c.body) → HasFresh c.body key (take n items) → IsPage p → HasNoTree c.body key
      → IsReading c key items (reading.Added p n)
  full_inner : (child : ℕ) → IsFound c key (found.Down child) → (HasRoomForChild c → ⊥)
      → IsReading c key items reading.Full
  full_leaf : (n : ℕ) → IsEntryLeaf c.body → IsAdded c key (take n items) added.Full → HasFresh c.body key items
      → HasNoTree c.body key → IsReading c key items reading.Full
  long : (place : ℕ) → IsLongAt c key place → IsAdded c key items added.TooLong → HasFresh c.body key items
      → HasNoTree c.body key → IsReading c key items (reading.Long place)
  other : (IsEntryBody c.body → ⊥) → IsReading c key items (reading.On next.Bad)
  past : (q : ℕ) → IsFound c key (found.Right q) → IsReading c key items (reading.On next.Bad)

-- the way goes on from a page that has room for a child more
abbrev pub IsRoomy : Sought → Page → Reading → Type 0
IsRoomy s c (reading.On (next.Down child)) = HasRoomIn s c
IsRoomy s c _ = ⊤

-- a page without room is a leaf
abbrev pub IsFullLeaf : Page → Reading → Type 0
IsFullLeaf c reading.Full = IsEntryLeaf c.body
IsFullLeaf c _ = ⊤
