-- Rules of a thesaurus, and how they replace phrases.
use Rattle.std.specs.Prelude.{◌≡◌, ◌⊎◌, ℕ, ◌<◌, ◌≤◌, List, [], ◌∷◌, length, map, Some}
use Rattle.std.specs.List.{slice_get}
use Rattle.ts_base.specs.declared.Found.{Found}
use Rattle.ts_base.specs.Dictionary.{WordAnswer, stop_word, word_lexemes}

-- a sample word: any stop word, or the words whose answer has these lexemes
pub data SampleWord : Type 0 where
  any_stop : SampleWord
  with_lexemes : List (List ℕ) → SampleWord

-- for answers that the sample words fit, one after another, these words
pub record Rule : Type 0 where
  pub samples : List SampleWord
  pub words : List Found

-- the lexemes, without their marks
abbrev pub lexemes_of : List Found → List (List ℕ)
lexemes_of found = map (λ f. f.lexeme) found

abbrev pub Fits : SampleWord → WordAnswer → Type 0
Fits any_stop stop_word = Unit {0}
Fits (with_lexemes lexemes) (word_lexemes found) = lexemes ≡ lexemes_of found
Fits sample answer = ⊥

-- each of the samples fits an answer, from the first on; answers may be left
abbrev pub FitsFirst : List SampleWord → List WordAnswer → Type 0
FitsFirst [] answers = Unit {0}
FitsFirst (sample ∷ samples) [] = ⊥
FitsFirst (sample ∷ samples) (answer ∷ answers) = Fits sample answer × FitsFirst samples answers

-- each of the answers is fit by a sample, from the first on; samples may be left
abbrev pub FitsAll : List SampleWord → List WordAnswer → Type 0
FitsAll samples [] = Unit {0}
FitsAll [] (answer ∷ answers) = ⊥
FitsAll (sample ∷ samples) (answer ∷ answers) = Fits sample answer × FitsAll samples answers

-- how many answers are replaced, and the words in their place
pub record Replacement : Type 0 where
  pub tokens : ℕ
  pub words : List Found

-- The rule at this place fits the first answers; no rule that fits them is longer, and none after it that fits is
-- as long.
pub record IsBest (rules : List Rule) (answers : List WordAnswer) (r : Replacement) : Type 0 where
  pub place : ℕ
  pub rule : Rule
  pub there : slice_get rules place ≡ Some rule
  pub fits : FitsFirst rule.samples answers
  pub longest : (k : ℕ) (other : Rule) → slice_get rules k ≡ Some other → FitsFirst other.samples answers
      → (length other.samples < length rule.samples) ⊎ ((length other.samples ≡ length rule.samples) × (k ≤ place))
  pub tokens : r.tokens ≡ length rule.samples
  pub words : r.words ≡ rule.words

-- no rule fits the first answers
abbrev pub NoneFits : List Rule → List WordAnswer → Type 0
NoneFits rules answers = (k : ℕ) (rule : Rule) → slice_get rules k ≡ Some rule → ¬ FitsFirst rule.samples answers

-- some rule has a beginning that fits all of the answers
pub record Continues (rules : List Rule) (answers : List WordAnswer) : Type 0 where
  pub place : ℕ
  pub rule : Rule
  pub there : slice_get rules place ≡ Some rule
  pub fits : FitsAll rule.samples answers
