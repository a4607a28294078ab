-- Which page of the pending list a cleanup reads next.
use Rattle.std.specs.Prelude.{◌≡◌, ℕ, suc, ◌<◌, ◌≤◌, List, [], ◌∷◌, ◌++◌, length, map}
use Rattle.page_types.specs.Views.{rows_of, first_of}
use Rattle.page_types.specs.declared.page.Row.{Row}
use Rattle.core_state.specs.Log.{Pages}
use Rattle.core_state.specs.Index.{Line}
use Rattle.core_maintenance.specs.Keeping.{LineGrows}
use Rattle.core_maintenance.specs.FreshRows.{RowsAreFresh}
use Rattle.gin_cleanup.specs.Gathering.{Wait, IsGathered}

abbrev pub items_on : Pages → ℕ → List ℕ
items_on P p = map (λ (w : Row). w.item) (rows_of (P p))

-- All pages that were there at the beginning were read. Or none was, and the next one is the list's first.
-- Or it comes after the last that was read, and these are the items of the rows on that one.
pub data IsNext (P : Pages) (left : ℕ) (counts line before : List ℕ) (page : ℕ) : Type 0 where
  none : length counts ≡ left → IsNext P left counts line before page
  first : (rest : List ℕ) → counts ≡ [] → line ≡ page ∷ rest → IsNext P left counts line before page
  later : (front rest : List ℕ) (p : ℕ) → line ≡ front ++ p ∷ page ∷ rest
      → suc (length front) ≡ length counts → before ≡ items_on P p → IsNext P left counts line before page

-- at the beginning, and once pages were shifted, it is the one that the metapage names
abbrev pub NextBegins : Type 0
NextBegins =
    (P : Pages) (line : List ℕ) → Line P line → (left : ℕ) → left ≤ length line
    → IsNext P left [] line [] (first_of (P 0))

-- while not all were read it is on the list, after as many pages as were read
abbrev pub NextIsThere : Type 0
NextIsThere =
    (P : Pages) (left : ℕ) (counts line before : List ℕ) (page : ℕ) → IsNext P left counts line before page
    → length counts < left → (front : List ℕ) × (rest : List ℕ) × (line ≡ front ++ page ∷ rest)
    × (length front ≡ length counts)

-- once it is read, the next one is the page that its right link names
abbrev pub NextFollows : Type 0
NextFollows =
    (P : Pages) (left n : ℕ) (counts line before : List ℕ) (page : ℕ) → IsNext P left counts line before page
    → Line P line → left ≤ length line → length counts < left
    → IsNext P left (counts ++ n ∷ []) line (items_on P page) (P page).right

-- records that only add leave it
abbrev pub NextStays : Type 0
NextStays =
    (P Q : Pages) (left : ℕ) (counts : List ℕ) (W V : List Wait) (before : List ℕ) (page : ℕ)
    (x : IsGathered P left counts W) (y : IsGathered Q left counts V) → LineGrows P Q → RowsAreFresh P Q
    → IsNext P left counts x.line before page → IsNext Q left counts y.line before page
