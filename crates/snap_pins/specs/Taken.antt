-- Which snapshots are in use, and the oldest numbers among them.
use Rattle.std.specs.Prelude.{◌≡◌, ℕ, ◌≤◌, ◌<◌, ◌⊎◌, List, Option, None, Some, slice_get}
use Rattle.snap_pins.specs.declared.Pin.{Pin}

-- this snapshot is in use, in this place
abbrev pub IsPinned : List (Option Pin) → ℕ → Pin → Type 0
IsPinned pins place pin = slice_get pins place ≡ Some (Some pin)

-- there is a snapshot in this place
abbrev pub IsTaken : List (Option Pin) → ℕ → Type 0
IsTaken pins place = (pin : Pin) × IsPinned pins place pin

-- there is none
abbrev pub IsFree : List (Option Pin) → ℕ → Type 0
IsFree pins place = slice_get pins place ≡ Some None

-- of a given number and one that each pin has: the least of all
pub record IsLeast (pins : List (Option Pin)) (number : Pin → ℕ) (given least : ℕ) : Type 0 where
  pub at_most : least ≤ given
  pub pinned : (place : ℕ) (pin : Pin) → IsPinned pins place pin → least ≤ number pin
  pub met : (least ≡ given) ⊎ ((place : ℕ) × (pin : Pin) × IsPinned pins place pin × (least ≡ number pin))
