-- A byte, read from the front of the bytes: the byte and those after it, or a fault.
-- A fault is how many bytes are left before the field that is refused, and 0 where they end within a field.
use Rattle.std.specs.Prelude.{ℕ, List, [], ◌∷◌, Result, Ok, Err}

abbrev pub Read : Type 0 → Type 0
Read A = Result (A × List ℕ) ℕ

-- one byte
abbrev pub byte_at : List ℕ → Read ℕ
byte_at [] = Err 0
byte_at (b ∷ rest) = Ok (b, rest)
