-- The rows of a document are together on the pages of the pending list, and but those of the
-- first row's document they are all there.
use Rattle.std.specs.Prelude.{◌≡◌, ◌⊎◌, ℕ, List, [], ◌∷◌, map, ⊤}
use Rattle.ts_base.specs.Vectors.{Vector}
use Rattle.ts_base.specs.Keys.{Key, keys_of}
use Rattle.page_types.specs.Views.{rows_of}
use Rattle.page_types.specs.declared.page.Row.{Row}
use Rattle.core_state.specs.Log.{Pages, In}
use Rattle.core_state.specs.Documents.{Doc, HasVector}
use Rattle.core_state.specs.Index.{InRows}

-- the rows of each of these pages
abbrev pub rows_by_page : Pages → List ℕ → List (List Row)
rows_by_page P qs = map (λ (q : ℕ). rows_of (P q)) qs

-- a row among these has the item
abbrev pub OnPage : ℕ → List Row → Type 0
OnPage i rows = (w : Row) × In w rows × (w.item ≡ i)

-- a row on one of the pages has the item
abbrev pub InLine : ℕ → List (List Row) → Type 0
InLine i [] = ⊥
InLine i (y ∷ ys) = OnPage i y ⊎ InLine i ys

-- the first row of the page has the item
abbrev pub StartsPage : ℕ → List Row → Type 0
StartsPage i [] = ⊥
StartsPage i (w ∷ ws) = w.item ≡ i

-- the first row of the first page has the item
abbrev pub IsFirst : ℕ → List (List Row) → Type 0
IsFirst i [] = ⊥
IsFirst i (y ∷ ys) = StartsPage i y

-- what has a row on a page and one further on is the first of the page right after
abbrev pub Grouped : List (List Row) → Type 0
Grouped [] = ⊤
Grouped (y ∷ ys) =
    Grouped ys × ((i : ℕ) → OnPage i y → InLine i ys → IsFirst i ys)

-- a row on one of the pages has the item and the key
abbrev pub KeyIn : Key → ℕ → List (List Row) → Type 0
KeyIn k i [] = ⊥
KeyIn k i (y ∷ ys) = InRows y k i ⊎ KeyIn k i ys

-- the document of the item has all its keys there
pub record AllKeysIn (P : Pages) (i : ℕ) (ys : List (List Row)) : Type 0 where
  pub doc : Doc
  pub vector : Vector
  pub item : doc.item ≡ i
  pub whole : HasVector P doc vector
  pub keys : (k : Key) → In k (keys_of vector) → KeyIn k i ys

-- what has a row there is the first, or has all its keys there
abbrev pub Complete : Pages → List (List Row) → Type 0
Complete P ys = (i : ℕ) → InLine i ys → IsFirst i ys ⊎ AllKeysIn P i ys

pub record RowsGrouped (P : Pages) (qs : List ℕ) : Type 0 where
  pub grouped : Grouped (rows_by_page P qs)
  pub complete : Complete P (rows_by_page P qs)
