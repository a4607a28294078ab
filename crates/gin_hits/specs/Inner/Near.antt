-- How far an item was sought in a list.
use Rattle.std.specs.Prelude.{ℕ, ◌<◌, List, length, get_or}

-- the items before this number are below an item
abbrev pub AreBelow : List ℕ → ℕ → ℕ → Type 0
AreBelow items n item = (k : ℕ) → k < n → k < length items → get_or items k 0 < item
