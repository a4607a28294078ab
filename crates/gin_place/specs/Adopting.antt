-- A page that takes a new one after a child.
use Rattle.std.specs.Prelude.{◌≡◌, ◌≢◌, ℕ, ◌<◌, List, ◌∷◌, ◌++◌}
use Rattle.page_types.specs.Keys.{BoundLess}
use Rattle.page_types.specs.declared.page.Page.{Page}
use Rattle.page_types.specs.declared.page.EntryChild.{EntryChild}
use Rattle.page_types.specs.declared.page.PostChild.{PostChild}
use Rattle.page_types.specs.declared.page.Body.TheVariants as body
use Rattle.core_state.specs.Log.{In}
use Rattle.entry_tree.specs.Finding.{IsBelow}
use Rattle.entry_tree.specs.Reading.{HasRoomForChild}
use Rattle.posting_tree.specs.Reading as post_rooms

-- What divides what is below children, a key or an item: the page of a child, whether it is above the child's bound,
-- and whether it is below that, or the child has none.
pub record Divider (C : Type 0) : Type 1 where
  pub page : C → ℕ
  pub IsPast : C → Type 0
  pub IsWithin : C → Type 0

abbrev pub key_divider : List ℕ → Divider EntryChild
key_divider mid = record {
  page = λ c. c.page;
  IsPast = λ c. IsBelow c.bound mid;
  IsWithin = λ c. BoundLess mid c.bound;
}

abbrev pub item_divider : ℕ → Divider PostChild
item_divider mid = record { page = λ c. c.page; IsPast = λ c. c.bound < mid; IsWithin = λ c. mid < c.bound }

-- among the children one alone has this page; what divides is past those before it, and within that one
pub record DividesBy {C : Type 0} (d : Divider C) (children : List C) (page : ℕ) : Type 0 where
  pub front : List C
  pub back : List C
  pub child : C
  pub parts : children ≡ front ++ child ∷ back
  pub page_is : d.page child ≡ page
  pub none_before : (b : C) → In b front → d.page b ≢ page
  pub none_after : (b : C) → In b back → d.page b ≢ page
  pub above : (b : C) → In b front → d.IsPast b
  pub below : d.IsWithin child

abbrev pub Divides : List EntryChild → ℕ → List ℕ → Type 0
Divides children page mid = DividesBy (key_divider mid) children page

abbrev pub DividesItems : List PostChild → ℕ → ℕ → Type 0
DividesItems children page mid = DividesBy (item_divider mid) children page

-- an inner page with room for a child more, where the key divides what is below the child with this page
pub record CanTake (page : ℕ) (mid : List ℕ) (c : Page) : Type 0 where
  pub children : List EntryChild
  pub content : c.body ≡ body.EntryInner children
  pub room : HasRoomForChild c
  pub divides : Divides children page mid

-- likewise an inner page of a posting tree, by an item
pub record CanTakeItem (page mid : ℕ) (c : Page) : Type 0 where
  pub children : List PostChild
  pub content : c.body ≡ body.PostInner children
  pub room : post_rooms.HasRoomForChild c
  pub divides : DividesItems children page mid
