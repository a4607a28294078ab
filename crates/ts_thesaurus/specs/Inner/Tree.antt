-- The samples of all rules as a tree of states. A state is named by the samples that lead to it, the last
-- first, and by the lexemes of the sample that it is within, the last first.
use Rattle.std.specs.Prelude.{◌≡◌, ◌≢◌, ◌⊎◌, ℕ, ◌<◌, ◌≤◌, List, [], ◌∷◌, ◌++◌, reverse, Option, Some, None}
use Rattle.std.specs.List.{slice_get}
use Rattle.ts_thesaurus.specs.Rules.{SampleWord, any_stop, with_lexemes, Rule}

-- what leads from a state to the next: a stop word, a lexeme of a sample, the end of a sample
-- with lexemes
pub data Letter : Type 0 where
  stop_letter : Letter
  word_letter : List ℕ → Letter
  end_letter : Letter

-- the state after a state by a letter
abbrev pub Steps : Type 0
Steps = ℕ → Letter → Option ℕ

-- the root is the state 0
pub data Named (steps : Steps) : ℕ → List SampleWord → List (List ℕ) → Type 0 where
  tree_root : Named steps 0 [] []
  by_stop : (p s : ℕ) (xs : List SampleWord) → Named steps p xs [] → steps p stop_letter ≡ Some s
      → Named steps s (any_stop ∷ xs) []
  by_word : (p s : ℕ) (xs : List SampleWord) (ls : List (List ℕ)) (w : List ℕ) → Named steps p xs ls
      → steps p (word_letter w) ≡ Some s → Named steps s xs (w ∷ ls)
  by_end : (p s : ℕ) (xs : List SampleWord) (ls ms : List (List ℕ)) → Named steps p xs ls
      → steps p end_letter ≡ Some s → ms ≡ reverse ls → Named steps s (with_lexemes ms ∷ xs) []

-- a tree: each state but the root is reached by one step, and from a state of a smaller number; states
-- have numbers below `size`
pub record IsTree (steps : Steps) (size : ℕ) : Type 0 where
  pub from : (p q s : ℕ) (l k : Letter) → steps p l ≡ Some s → steps q k ≡ Some s → p ≡ q
  pub letter : (p q s : ℕ) (l k : Letter) → steps p l ≡ Some s → steps q k ≡ Some s → l ≡ k
  pub rises : (p s : ℕ) (l : Letter) → steps p l ≡ Some s → p < s
  pub within : (p s : ℕ) (l : Letter) → steps p l ≡ Some s → s < size

-- the new step leads to a state of a number that no state had; all others stay
pub record AddsStep (old new : Steps) (size p : ℕ) (l : Letter) : Type 0 where
  pub free : old p l ≡ None
  pub added : new p l ≡ Some size
  pub others : (q : ℕ) (k : Letter) → (new q k ≡ old q k) ⊎ ((q ≡ p) × (k ≡ l))

-- some rule begins with these samples, the last of them first
abbrev pub BeginsSome : List Rule → List SampleWord → Type 0
BeginsSome rules xs =
    (k : ℕ) × (rule : Rule) × (more : List SampleWord) × (slice_get rules k ≡ Some rule)
    × (reverse rule.samples ≡ more ++ xs)

-- the last rule with exactly these samples, the last of them first
abbrev pub IsLastWith : List Rule → List SampleWord → Option ℕ → Type 0
IsLastWith rules xs None = (k : ℕ) (rule : Rule) → slice_get rules k ≡ Some rule → reverse rule.samples ≢ xs
IsLastWith rules xs (Some k) =
    (rule : Rule) × (slice_get rules k ≡ Some rule) × (reverse rule.samples ≡ xs)
    × ((j : ℕ) (other : Rule) → slice_get rules j ≡ Some other → reverse other.samples ≡ xs → j ≤ k)

-- the tree has the samples of these rules, and of no others; `last` says for a state the last rule that
-- ends there
pub record IsTreeOf (rules : List Rule) (steps : Steps) (size : ℕ) (last : ℕ → Option ℕ) : Type 0 where
  pub tree : IsTree steps size
  pub each : (k : ℕ) (rule : Rule) → slice_get rules k ≡ Some rule
      → (s : ℕ) × Named steps s (reverse rule.samples) []
  pub only : (s : ℕ) (x : SampleWord) (xs : List SampleWord) → Named steps s (x ∷ xs) []
      → BeginsSome rules (x ∷ xs)
  pub ends : (s : ℕ) (xs : List SampleWord) → Named steps s xs [] → IsLastWith rules xs (last s)
