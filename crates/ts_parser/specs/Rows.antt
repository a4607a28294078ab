-- Rows of pieces with single bytes between them.
use Rattle.std.specs.Prelude.{ℕ, suc, List, [], ◌∷◌, take, Bool, if◌then◌else◌, ◌==◌, ◌||◌, ◌&&◌}
use Rattle.std.specs.List.{list_any, prefix_len}

-- the bytes at the front that pass p have one that passes m
abbrev pub begins_piece : (ℕ → Bool) → (ℕ → Bool) → List ℕ → Bool
begins_piece p m u = list_any m (take (prefix_len p u) u)

-- how long the row of pieces is at whose front we are, with single bytes s between them
abbrev pub row_len : (ℕ → Bool) → (ℕ → Bool) → ℕ → List ℕ → ℕ
row_len p m s [] = 0
row_len p m s (c ∷ u) = if p c || ((c == s) && begins_piece p m u) then suc (row_len p m s u) else 0
