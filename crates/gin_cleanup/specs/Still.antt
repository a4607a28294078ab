-- Which rows that were linked at the beginning of a cleanup are still linked.
use Rattle.std.specs.Prelude.{◌≡◌, ◌↔◌, ℕ, suc, List, [], ◌∷◌, length, take, ⊤}
use Rattle.page_types.specs.Views.{rows_of}
use Rattle.page_types.specs.declared.page.Row.{Row}
use Rattle.core_state.specs.Log.{Log, Pages, In, Shows}
use Rattle.core_state.specs.Index.{Line, IsLinked, rows_on}
use Rattle.core_state.specs.Legal.{IsLegal}
use Rattle.core_maintenance.specs.Keeping.{LineGrows, ShiftKeeps}
use Rattle.gin_cleanup.specs.Gathering.{Wait, IsGathered}

-- the row is linked in each of these pages, which are those of a log that goes on, the last ones first
abbrev pub IsStill : List Pages → Row → Type 0
IsStill [] w = ⊤
IsStill (P ∷ Ps) w = IsLinked P w × IsStill Ps w

-- the rows that are still linked are on the first `left` pages of the list, and each of these has one
pub record AreOnFirst (Ps : List Pages) (P : Pages) (left : ℕ) (line : List ℕ) : Type 0 where
  pub on : (w : Row) → IsStill Ps w → In w (rows_on P (take left line))
  pub some : (q : ℕ) → In q (take left line) → (w : Row) × IsStill Ps w × In w (rows_of (P q))

-- at the beginning they are all rows of the list
abbrev pub StillBegins : Type 0
StillBegins =
    (R : Log) (P : Pages) → IsLegal R → Shows R P → (line : List ℕ) → Line P line
    → AreOnFirst (P ∷ []) P (length line) line

-- where the list grows at its end alone
abbrev pub StillGrows : Type 0
StillGrows =
    (Ps : List Pages) (P Q : Pages) (left : ℕ) (ns ms : List ℕ) (W V : List Wait) (x : IsGathered P left ns W)
    (y : IsGathered Q left ms V) → LineGrows P Q → AreOnFirst Ps P left x.line → AreOnFirst (Q ∷ Ps) Q left y.line

-- where its first page goes
abbrev pub StillGoes : Type 0
StillGoes =
    (Ps : List Pages) (P Q : Pages) (left : ℕ) (ns ms : List ℕ) (W V : List Wait)
    (x : IsGathered P (suc left) ns W) (y : IsGathered Q left ms V) → ShiftKeeps P Q
    → AreOnFirst Ps P (suc left) x.line → AreOnFirst (Q ∷ Ps) Q left y.line

-- none of these pages is left exactly where no row is still linked
abbrev pub StillEnds : Type 0
StillEnds =
    (Ps : List Pages) (P : Pages) (left : ℕ) (ns : List ℕ) (W : List Wait) (x : IsGathered P left ns W)
    → AreOnFirst Ps P left x.line → (left ≡ 0) ↔ ((w : Row) → IsStill Ps w → ⊥)
