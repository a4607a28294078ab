-- The lines of a thesaurus. `answer` is what the subdictionary answers to a word.
use Rattle.std.specs.Prelude.{◌≡◌, ◌≢◌, ◌⊎◌, ℕ, ◌-◌, ◌≤◌, List, [], ◌∷◌, ◌++◌, length, All, false, ◌==◌, if◌then◌else◌}
use Rattle.std.specs.Prelude.{bytes_eq, Option, Some, None}
use Rattle.std.specs.List.{slice_get}
use Rattle.ts_base.specs.declared.TheConstants.{LONGEST_LEXEME}
use Rattle.ts_base.specs.declared.Found.{Found}
use Rattle.ts_base.specs.Bytes.{IsBlank}
use Rattle.ts_base.specs.Words.{AreWords}
use Rattle.ts_base.specs.FirstLine.{IsFirstLine}
use Rattle.ts_base.specs.Dictionary.{WordAnswer, unknown_word, stop_word, word_lexemes}
use Rattle.ts_thesaurus.specs.Rules.{SampleWord, any_stop, with_lexemes, Rule, lexemes_of}

-- nothing but blanks, or `#` after blanks
pub record IsPassed (line : List ℕ) : Type 0 where
  pub gap : List ℕ
  pub rest : List ℕ
  pub split : line ≡ gap ++ rest
  pub blank : All IsBlank gap
  pub over : (rest ≡ []) ⊎ ((more : List ℕ) × (rest ≡ 35 ∷ more))

-- the first `:` parts the line
pub record IsCut (line left right : List ℕ) : Type 0 where
  pub split : line ≡ left ++ 58 ∷ right
  pub first : All (λ c. c ≢ 58) left

-- the first `:` ends the sample words; after it are the indexed words
pub record HasSides (line : List ℕ) (sample indexed : List (List ℕ)) : Type 0 where
  pub left : List ℕ
  pub right : List ℕ
  pub cut : IsCut line left right
  pub samples : AreWords left sample
  pub words : AreWords right indexed

-- one or more words, none longer than a lexeme
pub record AreFit (words : List (List ℕ)) : Type 0 where
  pub some : words ≢ []
  pub sized : All (λ word. length word ≤ LONGEST_LEXEME) words

-- a word that is taken as it is, without mark; none where it is empty
abbrev pub as_it_is : List ℕ → Option (List Found)
as_it_is [] = None
as_it_is (c ∷ word) = Some (record { lexeme = c ∷ word; prefix = false } ∷ [])

-- the lexemes of an answer, if it has any
abbrev pub lexemes_in : WordAnswer → Option (List Found)
lexemes_in unknown_word = None
lexemes_in stop_word = None
lexemes_in (word_lexemes found) = Some found

-- both lists, one after the other, where both are there
abbrev pub both : Option (List Found) → Option (List Found) → Option (List Found)
both None b = None
both (Some a) None = None
both (Some a) (Some b) = Some (a ++ b)

-- what stands for the words of this answer
abbrev pub sample_of : WordAnswer → Option SampleWord
sample_of unknown_word = None
sample_of stop_word = None
sample_of (word_lexemes found) = Some (with_lexemes (lexemes_of found))

-- the sample word and those after it, where all are there
abbrev pub ahead : Option SampleWord → Option (List SampleWord) → Option (List SampleWord)
ahead None samples = None
ahead (Some sample) None = None
ahead (Some sample) (Some samples) = Some (sample ∷ samples)

module _ (answer : List ℕ → WordAnswer) where
  -- What an indexed word gives: after `*` it is taken as it is, else the subdictionary is asked. None where it is bad.
  abbrev pub indexed_word : List ℕ → Option (List Found)
  indexed_word [] = None
  indexed_word (c ∷ word) = if c == 42 then as_it_is word else lexemes_in (answer (c ∷ word))

  -- what the indexed words give, one after the other
  abbrev pub indexed_words : List (List ℕ) → Option (List Found)
  indexed_words [] = Some []
  indexed_words (word ∷ words) = both (indexed_word word) (indexed_words words)

  -- A sample word: `?` is any stop word, and another stands for what the subdictionary answers. None where that has
  -- no lexemes.
  abbrev pub sample_word : List ℕ → Option SampleWord
  sample_word word = if bytes_eq word (63 ∷ []) then Some any_stop else sample_of (answer word)

  abbrev pub sample_words : List (List ℕ) → Option (List SampleWord)
  sample_words [] = Some []
  sample_words (word ∷ words) = ahead (sample_word word) (sample_words words)

  -- one of the sample words, and not `?`, has this answer
  abbrev pub HasSample : WordAnswer → List (List ℕ) → Type 0
  HasSample a [] = ⊥
  HasSample a (word ∷ words) = ((word ≢ 63 ∷ []) × (answer word ≡ a)) ⊎ HasSample a words

  -- the line has these sample words, and its indexed words give these
  pub record IsRead (line : List ℕ) (sample : List (List ℕ)) (words : List Found) : Type 0 where
    pub counts : ¬ IsPassed line
    pub indexed : List (List ℕ)
    pub sides : HasSides line sample indexed
    pub sample_fit : AreFit sample
    pub indexed_fit : AreFit indexed
    pub given : indexed_words indexed ≡ Some words

  -- the line gives this rule
  pub record GivesRule (line : List ℕ) (rule : Rule) : Type 0 where
    pub sample : List (List ℕ)
    pub read : IsRead line sample rule.words
    pub samples : sample_words sample ≡ Some rule.samples

  -- a line that counts, and can't be read
  pub record IsBadLine (line : List ℕ) : Type 0 where
    pub counts : ¬ IsPassed line
    pub unread : (sample : List (List ℕ)) (words : List Found) → ¬ IsRead line sample words

  -- a sample word is a stop word
  pub record HasStopSample (line : List ℕ) : Type 0 where
    pub sample : List (List ℕ)
    pub words : List Found
    pub read : IsRead line sample words
    pub stops : HasSample stop_word sample

  -- a sample word is unknown, and none is a stop word
  pub record HasUnknownSample (line : List ℕ) : Type 0 where
    pub sample : List (List ℕ)
    pub words : List Found
    pub read : IsRead line sample words
    pub no_stop : ¬ HasSample stop_word sample
    pub unknown : HasSample unknown_word sample

  abbrev pub IsRefused : List ℕ → Type 0
  IsRefused line = IsBadLine line ⊎ (HasStopSample line ⊎ HasUnknownSample line)

  -- the rules of the lines, in their order; lines that are passed have none
  abbrev pub AreRules : List (List ℕ) → List Rule → Type 0
  AreRules [] rules = rules ≡ []
  AreRules (line ∷ lines) rules =
      (IsPassed line × AreRules lines rules)
      ⊎ ((rule : Rule) × (rest : List Rule) × (rules ≡ rule ∷ rest) × GivesRule line rule × AreRules lines rest)

  -- the first line that is refused has this number, and is refused for this
  pub record IsFirstFault (Why : List ℕ → Type 0) (lines : List (List ℕ)) (number : ℕ) : Type 0 where
    pub first : IsFirstLine IsRefused lines number
    pub line : List ℕ
    pub there : slice_get lines (number - 1) ≡ Some line
    pub why : Why line

  -- the line isn't refused, and its rule, if it has one, is put after the others, whichever lines they are of
  pub record Adds (line : List ℕ) (old new : List Rule) : Type 0 where
    pub fit : ¬ IsRefused line
    pub each : (lines : List (List ℕ)) → AreRules lines old → AreRules (lines ++ line ∷ []) new
