-- A vector as contracts see it: its lexemes with their positions.
use Rattle.std.specs.Prelude.{ℕ, ◌+◌, ◌*◌, ◌<◌, ◌≤◌, List, length, All, AllPairs, sum_by}
use Rattle.ts_base.specs.declared.TheConstants.{LAST_POSITION, MOST_POSITIONS}
use Rattle.ts_base.specs.declared.Weight.{Weight}
use Rattle.ts_base.specs.Lexemes.{IsLexeme, IsBefore}

-- where a lexeme is in its text, and how much it counts there
pub record Position : Type 0 where
  pub at : ℕ
  pub weight : Weight

-- a lexeme and its positions
pub record Entry : Type 0 where
  pub lexeme : List ℕ
  pub positions : List Position

abbrev pub Vector : Type 0
Vector = List Entry

-- a position is numbered from 1 to 16383
abbrev pub IsPosition : Position → Type 0
IsPosition p = (1 ≤ p.at) × (p.at ≤ LAST_POSITION)

-- a lexeme with at most 256 positions, which rise
pub record IsEntry (entry : Entry) : Type 0 where
  pub lexeme : IsLexeme entry.lexeme
  pub positions : All IsPosition entry.positions
  pub rising : AllPairs (λ p q. p.at < q.at) entry.positions
  pub few : length entry.positions ≤ MOST_POSITIONS

-- normal form: the lexemes are in byte order, each once
pub record IsNormal (vector : Vector) : Type 0 where
  pub entries : All IsEntry vector
  pub rising : AllPairs (λ a b. IsBefore a.lexeme b.lexeme) vector

-- the bytes of all lexemes, and two for each position
abbrev pub content_size : Vector → ℕ
content_size vector = sum_by (λ entry. length entry.lexeme + 2 * length entry.positions) vector
