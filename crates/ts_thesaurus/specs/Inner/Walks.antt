-- How answers lead through the tree.
use Rattle.std.specs.Prelude.{◌≡◌, ◌⊎◌, ℕ, ◌<◌, ◌≤◌, List, [], ◌∷◌, length, Option, Some, None}
use Rattle.std.specs.List.{slice_get}
use Rattle.ts_base.specs.Dictionary.{WordAnswer, unknown_word, stop_word, word_lexemes}
use Rattle.ts_thesaurus.specs.Rules.{Rule, lexemes_of, FitsFirst}
use Rattle.ts_thesaurus.specs.Inner.Tree.{stop_letter, word_letter, end_letter, Steps}

-- what is found from a state, where there is one
abbrev pub then_from : {X : Type 0} → Option ℕ → (ℕ → Option X) → Option X
then_from None f = None
then_from (Some s) f = f s

-- the same, else d
abbrev pub or_from : Option ℕ → Option ℕ → (ℕ → Option ℕ) → Option ℕ
or_from None d f = d
or_from (Some s) d f = f s

abbrev pub behind_words : Steps → ℕ → List (List ℕ) → Option ℕ
behind_words steps s [] = Some s
behind_words steps s (w ∷ ws) = then_from (steps s (word_letter w)) (λ t. behind_words steps t ws)

abbrev pub behind : Steps → ℕ → WordAnswer → Option ℕ
behind steps s unknown_word = None
behind steps s stop_word = steps s stop_letter
behind steps s (word_lexemes found) =
    then_from (behind_words steps s (lexemes_of found)) (λ t. steps t end_letter)

abbrev pub behind_all : Steps → ℕ → List WordAnswer → Option ℕ
behind_all steps s [] = Some s
behind_all steps s (a ∷ left) = then_from (behind steps s a) (λ t. behind_all steps t left)

-- the first of the two that is there
abbrev pub newer : Option ℕ → Option ℕ → Option ℕ
newer None best = best
newer (Some k) best = Some k

-- the last rule that ends on the way, where `best` is that of the way so far
abbrev pub best_on : Steps → (ℕ → Option ℕ) → ℕ → Option ℕ → List WordAnswer → Option ℕ
best_on steps last s best [] = best
best_on steps last s best (a ∷ left) =
    or_from (behind steps s a) best (λ t. best_on steps last t (newer (last t) best) left)

-- of the rules of at most n samples the one at this place is the best; where there is no place, none fits
abbrev pub IsBestUpTo : List Rule → List WordAnswer → ℕ → Option ℕ → Type 0
IsBestUpTo rules answers n None =
    (k : ℕ) (rule : Rule) → slice_get rules k ≡ Some rule → length rule.samples ≤ n → ¬ FitsFirst rule.samples answers
IsBestUpTo rules answers n (Some place) =
    (rule : Rule) × (slice_get rules place ≡ Some rule) × FitsFirst rule.samples answers
    × ((k : ℕ) (other : Rule) → slice_get rules k ≡ Some other → length other.samples ≤ n
    → FitsFirst other.samples answers
    → (length other.samples < length rule.samples) ⊎ ((length other.samples ≡ length rule.samples) × (k ≤ place)))
