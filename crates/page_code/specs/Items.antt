-- Item lists on pages, read from left to right.
use Rattle.std.specs.Prelude.{ℕ, List, length, Result, Ok, Err, nat_lt, if◌then◌else◌}
use Rattle.page_types.specs.Fields.{◌>>=◌}
use Rattle.page_types.specs.ItemReading.{items_within}

-- the bytes after so many items
unfoldable pub items_at : ℕ → List ℕ → Result (List ℕ) ℕ
items_at count bytes = do
  x ← items_within count 0 bytes
  if nat_lt (length x.0) count then Err 0 else Ok x.1

-- an item list, all of the bytes
unfoldable pub list_at : List ℕ → Result (List ℕ) ℕ
list_at bytes = do
  x ← items_within (length bytes) 0 bytes
  Ok x.1
