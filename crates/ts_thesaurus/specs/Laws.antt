-- What holds of all rules, and of all lines.
use Rattle.std.specs.Prelude.{◌≡◌, ℕ, List, length}
use Rattle.ts_base.specs.FirstLine.{IsFirstLine}
use Rattle.ts_base.specs.Dictionary.{WordAnswer}
use Rattle.ts_thesaurus.specs.Rules.{SampleWord, FitsFirst}
use Rattle.ts_thesaurus.specs.Rules.{Rule}
use Rattle.ts_thesaurus.specs.Lines.{AreRules, IsRefused}

-- of each length one list of samples at most fits the first answers
abbrev pub OneFits : Type 0
OneFits = (answers : List WordAnswer) (a b : List SampleWord) → FitsFirst a answers → FitsFirst b answers
    → length a ≡ length b → a ≡ b

-- Lines have one reading: one list of rules, or one first line that is refused.
pub record LinesHaveOneReading : Type 0 where
  pub rules : (answer : List ℕ → WordAnswer) (lines : List (List ℕ)) (a b : List Rule) → AreRules answer lines a
      → AreRules answer lines b → a ≡ b
  pub first : (answer : List ℕ → WordAnswer) (lines : List (List ℕ)) (m n : ℕ) → IsFirstLine (IsRefused answer) lines m
      → IsFirstLine (IsRefused answer) lines n → m ≡ n
  pub refused : (answer : List ℕ → WordAnswer) (lines : List (List ℕ)) (a : List Rule) (n : ℕ) → AreRules answer lines a
      → ¬ IsFirstLine (IsRefused answer) lines n
