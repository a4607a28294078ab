-- Stop lists: what the lines of a text give.
use Rattle.std.specs.Prelude.{◌≡◌, ◌↔◌, ◌⊎◌, ℕ, ◌<◌, List, length, All, Contains}
use Rattle.std.specs.List.{Any}
use Rattle.ts_base.specs.FirstLine.{IsFirstLine}
use Rattle.ts_base.specs.Words.{IsFirstWord, lower}
use Rattle.ts_base.specs.declared.TheConstants.{LONGEST_LEXEME}

-- the line's first word has more bytes than a lexeme may have
abbrev pub IsBadLine : List ℕ → Type 0
IsBadLine line = (word : List ℕ) × IsFirstWord line word × (LONGEST_LEXEME < length word)

-- the line's first word, in lower case, is this one
abbrev pub Stops : List ℕ → List ℕ → Type 0
Stops word line = (first : List ℕ) × IsFirstWord line first × (word ≡ lower first)

-- no line is bad, and the stop words are the first words of the lines, in lower case
pub record IsStopList (lines stops : List (List ℕ)) : Type 0 where
  pub fit : All (λ line. ¬ IsBadLine line) lines
  pub each : (word : List ℕ) → Contains stops word ↔ Any (Stops word) lines

-- the line isn't bad, and its stop word, if it has one, is added to the list
pub record Adds (line : List ℕ) (old new : List (List ℕ)) : Type 0 where
  pub fit : ¬ IsBadLine line
  pub each : (word : List ℕ) → Contains new word ↔ (Contains old word ⊎ Stops word line)

-- what the reading of lines comes to: the stop words, or the number of the first bad line
pub data Reading : Type 0 where
  stop_words : List (List ℕ) → Reading
  bad_line : ℕ → Reading

abbrev pub IsReading : List (List ℕ) → Reading → Type 0
IsReading lines (stop_words stops) = IsStopList lines stops
IsReading lines (bad_line n) = IsFirstLine IsBadLine lines n

-- the same words, in whatever order, or the same line
abbrev pub AreSame : Reading → Reading → Type 0
AreSame (stop_words stops) (stop_words others) = (word : List ℕ) → Contains stops word ↔ Contains others word
AreSame (bad_line m) (bad_line n) = m ≡ n
AreSame a b = ⊥

-- lines have one reading
abbrev pub LinesHaveOneReading : Type 0
LinesHaveOneReading = (lines : List (List ℕ)) (a b : Reading) → IsReading lines a → IsReading lines b → AreSame a b
