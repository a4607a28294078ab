-- The words of a line, between blanks.
use Rattle.std.specs.Prelude.{◌≡◌, ℕ, ◌<◌, List, [], ◌∷◌, ◌++◌, length, map, All}
use Rattle.std.specs.Char.{to_ascii_lowercase}
use Rattle.ts_base.specs.Bytes.{IsBlank}

-- a word with A to Z, and no other character, in lower case
abbrev pub lower : List ℕ → List ℕ
lower word = map to_ascii_lowercase word

-- one or more bytes, and no blank among them
pub record IsWord (word : List ℕ) : Type 0 where
  pub some : 0 < length word
  pub dark : All (λ c. ¬ IsBlank c) word

-- what may be right after a word
abbrev pub EndsWord : List ℕ → Type 0
EndsWord [] = Unit {0}
EndsWord (c ∷ u) = IsBlank c

-- the line begins with blanks and this word, and the rest is after it
pub record BeginsWithWord (line word rest : List ℕ) : Type 0 where
  pub gap : List ℕ
  pub blank : All IsBlank gap
  pub is_word : IsWord word
  pub text : line ≡ gap ++ (word ++ rest)
  pub ends : EndsWord rest

-- the line's first word
abbrev pub IsFirstWord : List ℕ → List ℕ → Type 0
IsFirstWord line word = (rest : List ℕ) × BeginsWithWord line word rest

-- the line has these words, and blanks around them
abbrev pub AreWords : List ℕ → List (List ℕ) → Type 0
AreWords line [] = All IsBlank line
AreWords line (word ∷ words) = (rest : List ℕ) × BeginsWithWord line word rest × AreWords rest words

-- a line has one list of words
abbrev pub WordsAreOne : Type 0
WordsAreOne = (line : List ℕ) (v w : List (List ℕ)) → AreWords line v → AreWords line w → v ≡ w
