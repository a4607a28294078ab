-- The states of a tree as they are kept, and how samples are entered.
use Rattle.std.specs.Prelude.{◌≡◌, ◌⊎◌, ℕ, ◌+◌, ◌<◌, List, [], ◌∷◌, length, Option, Some, None}
use Rattle.std.specs.List.{slice_get}
use Rattle.std.specs.BTreeMap.{get_by_text}
use Rattle.ts_thesaurus.specs.Rules.{SampleWord, any_stop, with_lexemes, Rule}
use Rattle.ts_thesaurus.specs.declared.tree.State.{State}
use Rattle.ts_thesaurus.specs.declared.tree.Letter.{Letter as KeptLetter}
use Rattle.ts_thesaurus.specs.declared.tree.Letter.TheVariants.{Stop, Word, End}
use Rattle.ts_thesaurus.specs.Inner.Tree.{Letter, stop_letter, word_letter, end_letter, Steps, AddsStep, IsTreeOf}

abbrev pub letter_value : KeptLetter → Letter
letter_value Stop = stop_letter
letter_value (Word w) = word_letter w.now
letter_value End = end_letter

-- the state after this one by a letter
abbrev pub step_of : State → Letter → Option ℕ
step_of state stop_letter = state.stop
step_of state (word_letter w) = get_by_text state.words w
step_of state end_letter = state.end

abbrev pub step_in : Option State → Letter → Option ℕ
step_in None l = None
step_in (Some state) l = step_of state l

abbrev pub steps_of : List State → Steps
steps_of states s l = step_in (slice_get states s) l

abbrev pub last_in : Option State → Option ℕ
last_in None = None
last_in (Some state) = state.last

-- the last rule whose samples end at a state
abbrev pub last_of : List State → ℕ → Option ℕ
last_of states s = last_in (slice_get states s)

-- nothing leads on, and no rule ends here
pub record IsEmptyState (state : State) : Type 0 where
  pub alone : (l : Letter) → step_of state l ≡ None
  pub last : state.last ≡ None

-- the letter leads to this state; the rest stays
pub record LeadsTo (old new : State) (l : Letter) (next : ℕ) : Type 0 where
  pub added : step_of new l ≡ Some next
  pub others : (k : Letter) → (step_of new k ≡ step_of old k) ⊎ (k ≡ l)
  pub last : new.last ≡ old.last

-- steps lead to states that are there
abbrev pub AreWithin : List State → Type 0
AreWithin states = (p s : ℕ) (l : Letter) → steps_of states p l ≡ Some s → s < length states

-- there is this state, and steps lead to states that are there
abbrev pub Stands : List State → ℕ → Type 0
Stands states p = (p < length states) × AreWithin states

-- the letter leads from p to the next state, which is added where it wasn't there
pub record Enters (old new : List State) (p : ℕ) (l : Letter) (next : ℕ) : Type 0 where
  pub led : steps_of new p l ≡ Some next
  pub grown : (new ≡ old)
      ⊎ ((length new ≡ length old + 1) × (next ≡ length old)
      × AddsStep (steps_of old) (steps_of new) (length old) p l)
  pub last : (s : ℕ) → last_of new s ≡ last_of old s
  pub stands : Stands new next

-- lexemes of a sample lead from p to the next state, one after another
abbrev pub EntersWords : List State → List State → ℕ → List (List ℕ) → ℕ → Type 0
EntersWords old new p [] next = (new ≡ old) × (next ≡ p)
EntersWords old new p (w ∷ ws) next =
    (mid : List State) × (s : ℕ) × Enters old mid p (word_letter w) s × EntersWords mid new s ws next

-- a sample leads from p to the next state
abbrev pub EntersSample : List State → List State → ℕ → SampleWord → ℕ → Type 0
EntersSample old new p any_stop next = Enters old new p stop_letter next
EntersSample old new p (with_lexemes ms) next =
    (mid : List State) × (s : ℕ) × EntersWords old mid p ms s × Enters mid new s end_letter next

-- the samples lead from p to the next state, one after another
abbrev pub EntersSamples : List State → List State → ℕ → List SampleWord → ℕ → Type 0
EntersSamples old new p [] next = (new ≡ old) × (next ≡ p)
EntersSamples old new p (x ∷ xs) next =
    (mid : List State) × (s : ℕ) × EntersSample old mid p x s × EntersSamples mid new s xs next

-- the same states, or the root alone where there was none
abbrev pub HasRoot : List State → List State → Type 0
HasRoot old new =
    ((0 < length old) × (new ≡ old))
    ⊎ ((old ≡ []) × ((blank : State) × IsEmptyState blank × (new ≡ blank ∷ [])))

-- the states are a tree of the rules' samples
abbrev pub HasTree : List Rule → List State → Type 0
HasTree rules states = IsTreeOf rules (steps_of states) (length states) (last_of states)
