-- What is noted of rows of the pending list.
use Rattle.std.specs.Prelude.{◌≡◌, ℕ, Bool, List, [], ◌∷◌, map, Option, Some, None, Vec}
use Rattle.std.specs.declared.alloc.Global.{Global}
use Rattle.std.specs.List.{list_any, filter, flat_map}
use Rattle.ts_base.specs.Keys.{Key}
use Rattle.page_types.specs.declared.page.Row.{Row}
use Rattle.page_types.specs.Views.{kept_rows_of}
use Rattle.core_state.specs.Readings.{Read}
use Rattle.gin_opclass.specs.Class.{Asked}
use Rattle.core_moments.specs.Judging.{fits_asked}
use Rattle.gin_hits.specs.declared.hits.Hits.{Hits}

-- a key that is asked, or a prefix of keys
abbrev pub asked_for : Key → Bool → Asked
asked_for k prefix = record { key = k; prefix = prefix }

-- as a query has them
abbrev pub asked_by : Vec ℕ Global × Bool → Asked
asked_by k = asked_for k.0.items k.1

-- the items of these rows, in their order
abbrev pub items_of : List Row → List ℕ
items_of rows = map (λ (row : Row). row.item) rows

-- a key of the row fits the asked one
abbrev pub has_fitting : Asked → Row → Bool
has_fitting a row = list_any (fits_asked a) row.keys

-- the items of those rows of which a key fits the asked one
abbrev pub items_with : Asked → List Row → List ℕ
items_with a rows = items_of (filter (has_fitting a) rows)

-- these lists, one a key that is asked
abbrev pub lists_of : Hits → List (List ℕ)
lists_of h = map (λ (v : Vec ℕ Global). v.items) h.by_key.items

-- the items of these rows, and for each key that is asked those of the rows with a key that fits it
pub record AreNoted (asked : List Asked) (rows : List Row) (h : Hits) : Type 0 where
  pub any : h.any.items ≡ items_of rows
  pub by_key : lists_of h ≡ map (λ (a : Asked). items_with a rows) asked

-- the rows on pages of the list as they were read
abbrev pub rows_read : List Read → List Row
rows_read xs = flat_map (λ (x : Read). kept_rows_of x.content) xs

-- the item of the first of these rows
abbrev pub first_of_rows : List Row → Option ℕ
first_of_rows [] = None
first_of_rows (row ∷ rows) = Some row.item

-- the item of the first row on the first page
abbrev pub first_read : List Read → Option ℕ
first_read [] = None
first_read (x ∷ xs) = first_of_rows (kept_rows_of x.content)
