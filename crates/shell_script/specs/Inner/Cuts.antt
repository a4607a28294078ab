-- Where a line and a body end.
use Rattle.std.specs.Prelude.{◌≡◌, ◌⊎◌, ℕ, List, [], ◌∷◌, ◌++◌, codes, false}
use Rattle.std.specs.List.{All}
use Rattle.std.specs.Str.Lines.{strip_carriage_return}
use Rattle.shell_script.specs.Lines.{HasNo}
use Rattle.shell_script.specs.StepsOf.{is_end}

-- the line at the front of a text, which ends with a line end or with the text
abbrev pub IsCutOff : List ℕ → List ℕ → List ℕ → Type 0
IsCutOff text line rest =
    ((front : List ℕ) × (text ≡ front ++ 10 ∷ rest) × HasNo 10 front × (line ≡ strip_carriage_return front))
    ⊎ ((line ≡ text) × (rest ≡ []))

-- the lines of a body, and those after its end
abbrev pub IsCut : List (List ℕ) → List (List ℕ) → List (List ℕ) → Type 0
IsCut ls body behind = (ls ≡ body ++ codes "end" ∷ behind) × All (λ (l : List ℕ). is_end l ≡ false) body
