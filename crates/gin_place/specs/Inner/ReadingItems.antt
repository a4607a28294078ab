-- What a page of a posting tree says of items that are to come under its key.
use Rattle.std.specs.Prelude.{◌≡◌, ◌≢◌, ℕ, ◌<◌, ◌≤◌, List, [], ◌∷◌, ◌++◌, length, take, drop, ⊤}
use Rattle.std.specs.List.{Contains}
use Rattle.page_types.specs.Pages.{IsPage}
use Rattle.page_types.specs.Views.{posting_items_in}
use Rattle.page_types.specs.declared.page.Page.{Page}
use Rattle.page_types.specs.declared.page.Body.{Body}
use Rattle.page_types.specs.declared.page.Body.TheVariants as body
use Rattle.core_state.specs.Changes.{ItemUpTo}
use Rattle.posting_code.specs.Uniting.{TakesFirst}
use Rattle.posting_tree.specs.Adding.{IsPostLeaf, IsAdded}
use Rattle.posting_tree.specs.Finding.{IsFound}
use Rattle.posting_tree.specs.Full.{most_list}
use Rattle.posting_tree.specs.Reading.{IsPostBody, upper_in, HasRoomForChild}
use Rattle.posting_tree.specs.declared.adding.Added.TheVariants as added
use Rattle.posting_tree.specs.declared.finding.Found.TheVariants as found
use Rattle.ts_base.specs.Keys.{Key}
use Rattle.gin_place.specs.Inner.Reading as entries
use Rattle.gin_place.specs.declared.reading.Next.TheVariants as next
use Rattle.gin_place.specs.declared.reading.Reading.{Reading}
use Rattle.gin_place.specs.declared.reading.Reading.TheVariants as reading
use Rattle.gin_place.specs.declared.sought.Sought.{Sought}
use Rattle.gin_place.specs.declared.sought.Sought.TheVariants as sought

-- so many of the items, the first of them, are just those up to a high item
pub record IsUpTo (items : List ℕ) (high n : ℕ) : Type 0 where
  pub among : n ≤ length items
  pub within : (i : ℕ) → Contains (take n items) i → ItemUpTo i high
  pub above : (i : ℕ) (rest : List ℕ) → drop n items ≡ i ∷ rest → ItemUpTo i high → ⊥

-- all these items are on the leaf; or one of them is not
abbrev pub AreOn : Body → List ℕ → Type 0
AreOn content items = (i : ℕ) → Contains items i → Contains (posting_items_in content) i

abbrev pub HasFreshItem : Body → List ℕ → Type 0
HasFreshItem content items = (i : ℕ) × Contains items i × (Contains (posting_items_in content) i → ⊥)

-- The way of the first item goes on to a child; the first items, up to the high item, are on the leaf; the leaf with
-- them; no room for a child more, or for the first item; or it has no place on the page.
pub data IsReadingOf (c : Page) (items : List ℕ) : Reading → Type 0 where
  down : (item child : ℕ) (rest : List ℕ) → items ≡ item ∷ rest → IsFound c item (found.Down child)
      → IsReadingOf c items (reading.On (next.Down child))
  stand : (n : ℕ) → IsPostLeaf c.body → 0 < n → n ≤ length items → AreOn c.body (take n items)
      → IsReadingOf c items (reading.On (next.Stand n))
  more : (p : Page) (n : ℕ) → 0 < n → n ≤ length items → IsAdded c (take n items) (added.Done p)
      → ((i : ℕ) → Contains (take n items) i → ItemUpTo i (upper_in c.body)) → HasFreshItem c.body (take n items)
      → IsPage p → IsReadingOf c items (reading.Added p n)
  full_inner : (item child : ℕ) (rest : List ℕ) → items ≡ item ∷ rest → IsFound c item (found.Down child)
      → (HasRoomForChild c → ⊥) → IsReadingOf c items reading.Full
  full_leaf : (high : ℕ) (list within rest : List ℕ) → c.body ≡ body.PostLeaf high list → items ≡ within ++ rest
      → within ≢ [] → TakesFirst list within most_list 0 → HasFreshItem c.body items → IsReadingOf c items reading.Full
  other : (IsPostBody c.body → ⊥) → IsReadingOf c items (reading.On next.Bad)
  past : (item q : ℕ) (rest : List ℕ) → items ≡ item ∷ rest → IsFound c item (found.Right q)
      → IsReadingOf c items (reading.On next.Bad)

-- a page without room is a leaf
abbrev pub IsFullPostLeaf : Page → Reading → Type 0
IsFullPostLeaf c reading.Full = IsPostLeaf c.body
IsFullPostLeaf c _ = ⊤

-- what a page of the tree where something is sought says of the items that are not known to be under the key
abbrev pub IsReadingIn : Sought → Page → Key → List ℕ → Reading → Type 0
IsReadingIn sought.Key c k items r = entries.IsReading c k items r
IsReadingIn (sought.Item root item) c k items r = IsReadingOf c items r

abbrev pub IsFullLeafIn : Sought → Page → Reading → Type 0
IsFullLeafIn sought.Key c r = entries.IsFullLeaf c r
IsFullLeafIn (sought.Item root item) c r = IsFullPostLeaf c r
