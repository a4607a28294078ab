-- How far a search has come among keys that rise.
use Rattle.std.specs.Prelude.{ℕ, ◌<◌, ◌≤◌, List, [], length, get_or, map}
use Rattle.page_types.specs.Keys.{KeyLess}
use Rattle.page_types.specs.declared.page.Entry.{Entry}

-- the keys of entries
abbrev pub keys_of : List Entry → List (List ℕ)
keys_of entries = map (λ (e : Entry). e.key) entries

-- those before one number are below the key, those from another number on are not
pub record IsBetween (key : List ℕ) (all : List (List ℕ)) (low high : ℕ) : Type 0 where
  pub ordered : low ≤ high
  pub within : high ≤ length all
  pub below : (j : ℕ) → j < low → KeyLess (get_or all j []) key
  pub above : (j : ℕ) → high ≤ j → j < length all → KeyLess (get_or all j []) key → ⊥
