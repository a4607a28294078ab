-- The first line of a kind. Lines are numbered from 1 on.
use Rattle.std.specs.Prelude.{◌≡◌, ℕ, ◌+◌, ◌⊎◌, List, [], ◌∷◌}

abbrev pub IsFirstLine : (List ℕ → Type 0) → List (List ℕ) → ℕ → Type 0
IsFirstLine P [] n = ⊥
IsFirstLine P (l ∷ ls) n = (P l × (n ≡ 1)) ⊎ (¬ P l × ((m : ℕ) × (n ≡ m + 1) × IsFirstLine P ls m))
