-- The best rule by its place.
use Rattle.std.specs.Prelude.{◌≡◌, ◌⊎◌, ℕ, ◌<◌, ◌≤◌, List, length, map, Option, Some, None}
use Rattle.std.specs.List.{slice_get}
use Rattle.ts_base.specs.Dictionary.{WordAnswer}
use Rattle.ts_thesaurus.specs.Rules.{FitsFirst}
use Rattle.ts_thesaurus.specs.Views.{sample_value}
use Rattle.ts_thesaurus.specs.declared.rule.KeptRule.{KeptRule}

-- the rule fits the first answers
abbrev pub Suits : List WordAnswer → KeptRule → Type 0
Suits answers rule = FitsFirst (map sample_value rule.samples.items) answers

abbrev pub size : KeptRule → ℕ
size rule = length rule.samples.items

-- of the rules before a place this one is the best
pub record IsBestBefore (rules : List KeptRule) (answers : List WordAnswer) (before place longest : ℕ) : Type 0 where
  pub rule : KeptRule
  pub there : slice_get rules place ≡ Some rule
  pub suits : Suits answers rule
  pub longest_is : longest ≡ size rule
  pub others : (k : ℕ) (other : KeptRule) → k < before → slice_get rules k ≡ Some other → Suits answers other
      → (size other < longest) ⊎ ((size other ≡ longest) × (k ≤ place))

-- none of the rules before a place fits
abbrev pub NoneBefore : List KeptRule → List WordAnswer → ℕ → Type 0
NoneBefore rules answers before =
    (k : ℕ) (other : KeptRule) → k < before → slice_get rules k ≡ Some other → ¬ Suits answers other

abbrev pub IsBestOf : List KeptRule → List WordAnswer → ℕ → Option ℕ → ℕ → Type 0
IsBestOf rules answers before None longest = (longest ≡ 0) × NoneBefore rules answers before
IsBestOf rules answers before (Some place) longest = IsBestBefore rules answers before place longest

-- of all rules
abbrev pub IsBestPlace : List KeptRule → List WordAnswer → Option ℕ → Type 0
IsBestPlace rules answers best = (longest : ℕ) × IsBestOf rules answers (length rules) best longest
