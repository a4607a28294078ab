-- A row more on a pending page.
use Rattle.std.specs.Prelude.{◌≡◌, ℕ, ◌<◌, List, [], ◌∷◌, ◌++◌, length}
use Rattle.page_types.specs.Numbers.{most_body}
use Rattle.page_types.specs.Encoding.{body_bytes}
use Rattle.page_types.specs.Views.{rows_of}
use Rattle.page_types.specs.declared.page.Page.{Page}
use Rattle.page_types.specs.declared.page.Row.{Row}
use Rattle.page_types.specs.declared.page.Body.{Body}
use Rattle.page_types.specs.declared.page.Body.TheVariants as body
use Rattle.pending_list.specs.Packing.{row_of}

-- the page has rows of the pending list
abbrev pub IsPendingPage : Page → Type 0
IsPendingPage p = (rows : List Row) × (p.body ≡ body.Pending rows)

-- the rows of the page and, after them, one of the item with these keys
abbrev pub with_row : Page → ℕ → List (List ℕ) → Body
with_row p item keys = body.Pending (rows_of p ++ row_of item keys ∷ [])

-- they are too long for a page
abbrev pub HasNoRoom : Page → ℕ → List (List ℕ) → Type 0
HasNoRoom p item keys = most_body < length (body_bytes (with_row p item keys))
