-- Entries by their lexemes, to which others are added.
use Rattle.std.specs.Prelude.{◌≡◌, ◌≢◌, ℕ, ◌+◌, ◌-◌, ◌*◌, ◌<◌, ◌≤◌, ◌⊎◌, List, [], ◌++◌, length, get_or, All, AllPairs}
use Rattle.std.specs.Prelude.{Contains}
use Rattle.ts_base.specs.Lexemes.{IsBefore}
use Rattle.ts_base.specs.declared.TheConstants.{MOST_POSITIONS}
use Rattle.ts_base.specs.Vectors.{Position, Entry, Vector, content_size}
use Rattle.ts_vector.specs.Normal.{Names}
use Rattle.ts_vector.specs.Inner.Columns.{entry}
use Rattle.ts_vector.specs.Inner.Steps.{SettlesTo}

-- the lexeme has these positions; none where no entry has the lexeme
abbrev pub IsAt : Vector → List ℕ → List Position → Type 0
IsAt v l ps = Contains v (entry l ps) ⊎ ((¬ Names v l) × (ps ≡ []))

-- and its entry has so much content
abbrev pub IsHeld : Vector → List ℕ → List Position → ℕ → Type 0
IsHeld v l ps n =
    (Contains v (entry l ps) × (n ≡ length l + 2 * length ps))
    ⊎ ((¬ Names v l) × (ps ≡ []) × (n ≡ 0))

-- no position of the lexeme is after one of these
abbrev pub AreBehind : Vector → List ℕ → List Position → Type 0
AreBehind v l ps = (qs : List Position) → Contains v (entry l qs)
    → All (λ q. All (λ p. q.at ≤ p.at) ps) qs

-- one more entry: its positions are joined to those of its lexeme, and settled
pub record Puts (old : Vector) (e : Entry) (new : Vector) : Type 0 where
  pub put : Entry
  pub before : List Position
  pub at : IsAt old e.lexeme before
  pub lexeme : put.lexeme ≡ e.lexeme
  pub positions : SettlesTo (before ++ e.positions) put.positions
  pub rising : AllPairs (λ a b. IsBefore a.lexeme b.lexeme) new
  pub there : Contains new put
  pub from : (x : Entry) → Contains new x → (x ≡ put) ⊎ ((x.lexeme ≢ e.lexeme) × Contains old x)
  pub to : (x : Entry) → Contains old x → (x.lexeme ≡ e.lexeme) ⊎ Contains new x
  pub size : content_size new ≤ content_size old + (length e.lexeme + 2 * length e.positions)

-- the list has 256 positions or more, and others are after the last one
pub record IsFull (ps others : List Position) : Type 0 where
  pub long : MOST_POSITIONS ≤ length ps
  pub behind : (d : Position) → All (λ p. (get_or ps (length ps - 1) d).at < p.at) others
