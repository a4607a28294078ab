-- What a record does to the pending list.
use Rattle.std.specs.Prelude.{◌≡◌, ◌⊎◌, ℕ, List, [], ◌∷◌, ◌++◌}
use Rattle.page_types.specs.Views.{rows_of, kept_rows_of, first_of}
use Rattle.page_types.specs.declared.page.Row.{Row}
use Rattle.core_state.specs.Log.{Log, Pages, In}
use Rattle.core_state.specs.Inner.Effects.{NewRow, Moved}
use Rattle.core_state.specs.Inner.Ghosts.{Ghost}
use Rattle.core_state.specs.Inner.Ghosts.Place.{shifted}

-- these rows are of documents whose transactions run
abbrev pub AreNew : Log → Pages → List Row → Type 0
AreNew R P rows = (w : Row) → In w rows → NewRow R P w.item

-- The pending list stays or grows at its end, by pages and by rows of documents whose transactions
-- run; or it loses its first page, which is deleted with its rows and its link, and whose documents
-- are in the main part.
pub data LineStep (R : Log) (P Q : Pages) (g g' : Ghost) : Type 0 where
  grow : (chain : List ℕ) → g'.line ≡ g.line ++ chain
      → (first_of (Q 0) ≡ first_of (P 0)) ⊎ (g.line ≡ [])
      → ((q : ℕ) → In q chain → AreNew R P (rows_of (Q q)))
      → ((q : ℕ) → In q g.line
      → (extra : List Row) × (rows_of (Q q) ≡ rows_of (P q) ++ extra) × AreNew R P extra)
      → LineStep R P Q g g'
  shift : (p : ℕ) → g.line ≡ p ∷ g'.line → first_of (Q 0) ≡ (P p).right → g'.place p ≡ shifted
      → (Q p).right ≡ (P p).right → kept_rows_of (Q p) ≡ rows_of (P p)
      → ((w : Row) → In w (rows_of (P p)) → Moved P w.item)
      → ((q : ℕ) → In q g'.line → rows_of (Q q) ≡ rows_of (P q)) → LineStep R P Q g g'
