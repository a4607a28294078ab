-- The steps of a script.
use Rattle.std.specs.Prelude.{◌≡◌, ◌⊎◌, ℕ, Bool, true, false, List, [], ◌∷◌, ◌++◌, codes}
use Rattle.std.specs.List.{All}
use Rattle.ts_base.specs.Words.{BeginsWithWord}
use Rattle.shell_script.specs.Lines.{Line}
use Rattle.shell_script.specs.Grammar.{IsSkipped}

-- exactly `end`
abbrev pub IsEnd : Line → Type 0
IsEnd l = l.bytes ≡ codes "end"

-- the line's first word is this one, whatever follows
abbrev pub HasFirst : List ℕ → Line → Type 0
HasFirst first l = (rest : List ℕ) × BeginsWithWord l.bytes first rest

abbrev pub OpensDefinition : Line → Type 0
OpensDefinition l = HasFirst (codes "dictionary") l ⊎ HasFirst (codes "configuration") l

abbrev pub OpensBlock : Line → Type 0
OpensBlock l = HasFirst (codes "parallel") l

-- the lines of a body, up to the first that is exactly `end`, and what is after that
pub record HasBody (ls body rest : List Line) : Type 0 where
  pub last : Line
  pub is_end : IsEnd last
  pub lines : ls ≡ body ++ last ∷ rest
  pub before : All (λ (l : Line). ¬ IsEnd l) body

-- A step is a line by itself, a definition with the lines of its body, or a line that is no
-- statement where it is.
pub data Step : Type 0 where
  single : Line → Step
  definition : Line → List Line → Step
  stray : Line → Step

-- The steps of lines; whether the first is in a block. Blocks are not built, so each line of one
-- is no statement. A definition without its end is the last step, and nothing after it is one.
pub data AreSteps : Bool → List Line → List Step → Type 0 where
  over : (within : Bool) → AreSteps within [] []
  skips : (within : Bool) (l : Line) (ls : List Line) (ss : List Step) → IsSkipped l.bytes
      → AreSteps within ls ss → AreSteps within (l ∷ ls) ss
  stands : (l : Line) (ls : List Line) (ss : List Step) → ¬ IsSkipped l.bytes → ¬ OpensDefinition l
      → ¬ OpensBlock l → AreSteps false ls ss → AreSteps false (l ∷ ls) (single l ∷ ss)
  defines : (l : Line) (ls body rest : List Line) (ss : List Step) → ¬ IsSkipped l.bytes
      → OpensDefinition l → HasBody ls body rest → AreSteps false rest ss
      → AreSteps false (l ∷ ls) (definition l body ∷ ss)
  breaks_off : (l : Line) (ls : List Line) → ¬ IsSkipped l.bytes → OpensDefinition l
      → All (λ (m : Line). ¬ IsEnd m) ls → AreSteps false (l ∷ ls) (stray l ∷ [])
  opens : (l : Line) (ls : List Line) (ss : List Step) → ¬ IsSkipped l.bytes → OpensBlock l
      → AreSteps true ls ss → AreSteps false (l ∷ ls) (stray l ∷ ss)
  goes_on : (l : Line) (ls : List Line) (ss : List Step) → ¬ IsSkipped l.bytes → ¬ IsEnd l
      → AreSteps true ls ss → AreSteps true (l ∷ ls) (stray l ∷ ss)
  closes : (l : Line) (ls : List Line) (ss : List Step) → ¬ IsSkipped l.bytes → IsEnd l
      → AreSteps false ls ss → AreSteps true (l ∷ ls) (stray l ∷ ss)
