-- A vector that is built, as it lies in memory: its lexemes, each once, and where they occur.
use Rattle.std.specs.Prelude.{◌≡◌, ℕ, ◌<◌, ◌⊎◌, List, [], ◌∷◌, ◌++◌, length, map, get_or, All, Any, Contains}
use Rattle.ts_base.specs.Lexemes.{IsLexeme}
use Rattle.ts_base.specs.Vectors.{Position, Entry, IsPosition}
use Rattle.ts_vector.specs.declared.builder.Occurrence.{Occurrence}
use Rattle.ts_vector.specs.Inner.Columns.{entry}

abbrev pub item_of : List (List ℕ) → Occurrence → Entry
item_of lexemes o = entry (get_or lexemes o.lexeme []) (o.position ∷ [])

abbrev pub items_of : List (List ℕ) → List Occurrence → List Entry
items_of lexemes occurrences = map (item_of lexemes) occurrences

-- each occurrence is of one of the lexemes, and each lexeme occurs
pub record AreBuilding (lexemes : List (List ℕ)) (occurrences : List Occurrence) : Type 0 where
  pub valid : All IsLexeme lexemes
  pub within : All (λ o. o.lexeme < length lexemes) occurrences
  pub placed : All (λ o. IsPosition o.position) occurrences
  pub used : (i : ℕ) → i < length lexemes → Any (λ o. o.lexeme ≡ i) occurrences

-- a lexeme is there already, at this index, or comes last
abbrev pub IsEntered : List (List ℕ) → List ℕ → ℕ → List (List ℕ) → Type 0
IsEntered old l i new =
    ((new ≡ old) × (i < length old) × (get_or old i [] ≡ l))
    ⊎ ((new ≡ old ++ l ∷ []) × (i ≡ length old))

-- the numbers are those of lexemes of the list
abbrev pub IsNumbered : List (List ℕ) → List ℕ × ℕ → Type 0
IsNumbered lexemes e = (e.1 < length lexemes) × (get_or lexemes e.1 [] ≡ e.0)

abbrev pub AreNumbered : List (List ℕ) → List (List ℕ × ℕ) → Type 0
AreNumbered lexemes es = All (IsNumbered lexemes) es

-- the lists have the positions of so many lexemes
pub record AreGrouped (count : ℕ) (occurrences : List Occurrence) (lists : List (List Position))
    : Type 0 where
  pub count_is : length lists ≡ count
  pub to : (o : Occurrence) → Contains occurrences o
      → Contains (get_or lists o.lexeme []) o.position
  pub from : (i : ℕ) (p : Position) → Contains (get_or lists i []) p
      → Any (λ o. (o.lexeme ≡ i) × (o.position ≡ p)) occurrences

-- each lexeme with its positions
abbrev pub rows_of : List (List ℕ) → List (List Position) → List Entry
rows_of [] lists = []
rows_of (l ∷ ls) [] = []
rows_of (l ∷ ls) (ps ∷ lists) = entry l ps ∷ rows_of ls lists
