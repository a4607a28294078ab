-- A stack as a list whose head is the top.
use Rattle.std.specs.Prelude.{ℕ, ◌+◌, List, [], ◌∷◌}

abbrev pub top_or : {T : Type 0} → T → List T → T
top_or d [] = d
top_or d (x ∷ st) = x

abbrev pub below : {T : Type 0} → List T → List T
below [] = []
below (x ∷ st) = st

-- the sum of a stack of numbers
abbrev pub total : List ℕ → ℕ
total [] = 0
total (x ∷ st) = x + total st
