-- How a document's keys are packed into rows, each on a page of its own.
use Rattle.std.specs.Prelude.{◌≢◌, ℕ, ◌+◌, ◌<◌, ◌≤◌, List, [], ◌∷◌, ◌++◌, length}
use Rattle.std.specs.List.{AllByRecursion, flat_map}
use Rattle.page_types.specs.Numbers.{most_body}
use Rattle.page_types.specs.Keys.{IsKey, KeyLess, Rising}
use Rattle.page_types.specs.Encoding.{key_field}
use Rattle.page_types.specs.declared.page.Page.{Page}
use Rattle.page_types.specs.declared.page.Row.{Row}
use Rattle.page_types.specs.declared.page.Body.TheVariants as body

-- keys as a document has them: one or more, in key order, each once
pub record AreKeys (keys : List (List ℕ)) : Type 0 where
  pub some : keys ≢ []
  pub each : AllByRecursion IsKey keys
  pub rising : Rising KeyLess keys

-- a row of the item with these keys
abbrev pub row_of : ℕ → List (List ℕ) → Row
row_of item keys = record { item = item; keys = keys }

-- how many bytes such a row has: 4 of the item, 2 of the number of keys, and 2 and its length a key
abbrev pub row_length : List (List ℕ) → ℕ
row_length keys = 6 + length (flat_map key_field keys)

-- a page with this row alone, which leads to no other page yet
abbrev pub page_of_row : ℕ → List (List ℕ) → Page
page_of_row item keys =
    record { right = 0; stamp = 0; body = body.Pending (row_of item keys ∷ []) }

-- These pages have the keys in their order, one row of the item each. Each but the last has as many
-- of the keys as fit.
pub data ArePacked (item : ℕ) : List (List ℕ) → List Page → Type 0 where
  last : (keys : List (List ℕ)) → row_length keys ≤ most_body
      → ArePacked item keys (page_of_row item keys ∷ [])
  more : (front : List (List ℕ)) (key : List ℕ) (back : List (List ℕ)) (pages : List Page)
      → front ≢ [] → row_length front ≤ most_body → most_body < row_length (front ++ key ∷ [])
      → ArePacked item (key ∷ back) pages
      → ArePacked item (front ++ key ∷ back) (page_of_row item front ∷ pages)
