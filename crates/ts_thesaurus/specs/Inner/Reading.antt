-- What the reading of a line gives.
use Rattle.std.specs.Prelude.{◌≡◌, ◌≢◌, ℕ, ◌≤◌, List, [], ◌∷◌, length, map, Bool, true, false, Option, Some, None}
use Rattle.ts_base.specs.declared.TheConstants.{LONGEST_LEXEME}
use Rattle.ts_base.specs.Dictionary.{WordAnswer, unknown_word, stop_word}
use Rattle.ts_thesaurus.specs.Lines.{sample_word, sample_words, HasSample, IsPassed, GivesRule}
use Rattle.ts_thesaurus.specs.Views.{sample_value, rule_value}
use Rattle.ts_thesaurus.specs.declared.rule.Sample.{Sample}
use Rattle.ts_thesaurus.specs.declared.rule.KeptRule.{KeptRule}
use Rattle.ts_base.specs.declared.line_error.LineError.{LineError}
use Rattle.ts_base.specs.declared.line_error.LineError.TheVariants.{Bad, StopInSample, UnknownInSample, Memory}

-- a word that a dictionary may be asked
abbrev pub IsAsked : List ℕ → Type 0
IsAsked word = (1 ≤ length word) × (length word ≤ LONGEST_LEXEME)

-- what a sample word stands for; none where it is unknown
abbrev pub StandsFor : (List ℕ → WordAnswer) → List ℕ → Option Sample → Type 0
StandsFor answer word None = (word ≢ 63 ∷ []) × (answer word ≡ unknown_word)
StandsFor answer word (Some sample) = sample_word answer word ≡ Some (sample_value sample)

-- why a sample word is refused
abbrev pub IsWordFault : (List ℕ → WordAnswer) → List ℕ → LineError → Type 0
IsWordFault answer word Bad = ⊥
IsWordFault answer word StopInSample = (word ≢ 63 ∷ []) × (answer word ≡ stop_word)
IsWordFault answer word UnknownInSample = ⊥
IsWordFault answer word Memory = Unit {0}

-- why sample words are refused
abbrev pub AreWordsFault : (List ℕ → WordAnswer) → List (List ℕ) → LineError → Type 0
AreWordsFault answer words Bad = ⊥
AreWordsFault answer words StopInSample = HasSample answer stop_word words
AreWordsFault answer words UnknownInSample = (¬ HasSample answer stop_word words) × HasSample answer unknown_word words
AreWordsFault answer words Memory = Unit {0}

-- the line is passed, or gives this rule
abbrev pub Reads : (List ℕ → WordAnswer) → List ℕ → Option KeptRule → Type 0
Reads answer line None = IsPassed line
Reads answer line (Some rule) = GivesRule answer line (rule_value rule)

-- what the sample words so far stand for, where all of them are known; else one is unknown
abbrev pub IsKnown : (List ℕ → WordAnswer) → List (List ℕ) → List Sample → Bool → Type 0
IsKnown answer words samples true = sample_words answer words ≡ Some (map sample_value samples)
IsKnown answer words samples false = HasSample answer unknown_word words

-- the sample words so far: none is a stop word
pub record AreSampled (answer : List ℕ → WordAnswer) (words : List (List ℕ)) (samples : List Sample)
    (known : Bool) : Type 0 where
  pub no_stop : ¬ HasSample answer stop_word words
  pub so_far : IsKnown answer words samples known
