-- Lists of synonyms: a word of a line and what stands for it.
use Rattle.std.specs.Prelude.{◌≡◌, ◌≢◌, ◌⊎◌, ◌↔◌, ℕ, ◌<◌, List, [], ◌∷◌, ◌++◌, length, All, Bool, true, false, bytes_eq}
use Rattle.std.specs.Prelude.{Option, Some, None}
use Rattle.std.specs.Map.{lookup}
use Rattle.ts_base.specs.declared.TheConstants.{LONGEST_LEXEME}
use Rattle.ts_base.specs.declared.Found.{Found}
use Rattle.ts_base.specs.Words.{lower, BeginsWithWord}
use Rattle.ts_base.specs.FirstLine.{IsFirstLine}
use Rattle.ts_base.specs.Dictionary.{WordAnswer, unknown_word, word_lexemes}

-- a word as it is compared: in lower case, unless the list is case sensitive
abbrev pub cased : Bool → List ℕ → List ℕ
cased true word = word
cased false word = lower word

-- the line begins with these two words
pub record HasTwoWords (line word replacement : List ℕ) : Type 0 where
  pub behind : List ℕ
  pub rest : List ℕ
  pub first : BeginsWithWord line word behind
  pub second : BeginsWithWord behind replacement rest

-- A replacement, what it is without the mark, and whether it has the mark: one `*` at its end.
abbrev pub IsMarked : List ℕ → List ℕ → Bool → Type 0
IsMarked replacement text true = replacement ≡ text ++ 42 ∷ []
IsMarked replacement text false = (replacement ≡ text) × ((front : List ℕ) → replacement ≢ front ++ 42 ∷ [])

-- the line gives this for the word
pub record GivesFor (sensitive : Bool) (line word : List ℕ) (found : Found) : Type 0 where
  pub written : List ℕ
  pub replacement : List ℕ
  pub text : List ℕ
  pub words : HasTwoWords line written replacement
  pub marked : IsMarked replacement text found.prefix
  pub word_cased : word ≡ cased sensitive written
  pub lexeme_cased : found.lexeme ≡ cased sensitive text

-- one of the two words is longer than a lexeme, or the replacement is the mark alone
abbrev pub IsBadPair : List ℕ → List ℕ → Type 0
IsBadPair word replacement =
    (LONGEST_LEXEME < length word) ⊎ ((LONGEST_LEXEME < length replacement) ⊎ (replacement ≡ 42 ∷ []))

-- the line begins with two such words
pub record IsBadLine (line : List ℕ) : Type 0 where
  pub word : List ℕ
  pub replacement : List ℕ
  pub words : HasTwoWords line word replacement
  pub why : IsBadPair word replacement

-- the first of the lines that gives something for the word gives this
abbrev pub IsFirstGiven : Bool → List (List ℕ) → List ℕ → Found → Type 0
IsFirstGiven sensitive [] word found = ⊥
IsFirstGiven sensitive (line ∷ lines) word found =
    GivesFor sensitive line word found
    ⊎ (((other : Found) → ¬ GivesFor sensitive line word other) × IsFirstGiven sensitive lines word found)

-- a list as it is kept: whether it is case sensitive, and its words, each with what stands for it
pub record Synonyms : Type 0 where
  pub sensitive : Bool
  pub pairs : List (List ℕ × Found)

-- what stands for the word, which is cased
abbrev pub given_for : Synonyms → List ℕ → Option Found
given_for kept word = lookup (bytes_eq word) kept.pairs

abbrev pub given_answer : Option Found → WordAnswer
given_answer None = unknown_word
given_answer (Some found) = word_lexemes (found ∷ [])

-- what a list answers to a word
abbrev pub synonym_answer : Synonyms → List ℕ → WordAnswer
synonym_answer kept word = given_answer (given_for kept (cased kept.sensitive word))

-- The list is that of these lines, none of which is bad: for each word it has what the first line gives.
pub record IsSynonymList (sensitive : Bool) (lines : List (List ℕ)) (kept : Synonyms) : Type 0 where
  pub fit : All (λ line. ¬ IsBadLine line) lines
  pub casing : kept.sensitive ≡ sensitive
  pub each : (word : List ℕ) (found : Found) → (given_for kept word ≡ Some found)
      ↔ IsFirstGiven sensitive lines word found

-- the line isn't bad, and the list is that of one line more, whichever lines it was of
pub record Adds (line : List ℕ) (old new : Synonyms) : Type 0 where
  pub fit : ¬ IsBadLine line
  pub each : (sensitive : Bool) (lines : List (List ℕ)) → IsSynonymList sensitive lines old
      → IsSynonymList sensitive (lines ++ line ∷ []) new

-- Lines have one reading: they are refused or not, at one line, and all lists that are kept of them answer alike.
pub record LinesHaveOneReading : Type 0 where
  pub answers : (sensitive : Bool) (lines : List (List ℕ)) (a b : Synonyms) → IsSynonymList sensitive lines a
      → IsSynonymList sensitive lines b → (word : List ℕ) → synonym_answer a word ≡ synonym_answer b word
  pub first : (lines : List (List ℕ)) (m n : ℕ) → IsFirstLine IsBadLine lines m → IsFirstLine IsBadLine lines n → m ≡ n
  pub refused : (sensitive : Bool) (lines : List (List ℕ)) (a : Synonyms) (n : ℕ) → IsSynonymList sensitive lines a
      → ¬ IsFirstLine IsBadLine lines n
