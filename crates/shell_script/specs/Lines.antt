-- The lines of a script.
use Rattle.std.specs.Prelude.{◌≢◌, ℕ, ◌+◌, List, [], ◌∷◌}
use Rattle.std.specs.List.{All}
use Rattle.std.specs.Str.Lines.{lines}

abbrev pub HasNo : ℕ → List ℕ → Type 0
HasNo byte bytes = All (λ (b : ℕ). b ≢ byte) bytes

-- a line of a script, with its number
pub record Line : Type 0 where
  pub number : ℕ
  pub bytes : List ℕ

-- the lines with their numbers, of which the first has this one
abbrev pub lines_from : ℕ → List (List ℕ) → List Line
lines_from n [] = []
lines_from n (bytes ∷ more) = record { number = n; bytes = bytes } ∷ lines_from (n + 1) more

-- the lines of a script, counted from 1
abbrev pub script_lines : List ℕ → List Line
script_lines text = lines_from 1 (lines text)
