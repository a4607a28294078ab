-- Bytes that are written over others from a place on, up to another.
use Rattle.std.specs.Prelude.{◌≡◌, ℕ, ◌+◌, List, length}
use Rattle.page_types.specs.Writing.{overwritten}

abbrev pub Puts : ℕ → List ℕ → List ℕ → ℕ → List ℕ → Type 0
Puts at bytes old end new = (end ≡ at + length bytes) × (new ≡ overwritten at bytes old)
