-- The least number of the first places of a list of pins.
use Rattle.std.proofs.Common.{◌≡◌, ℕ, ◌+◌, ◌<◌, ◌≤◌, ◌⊎◌, min, List, Option, None, Some, slice_get, length, arith, inl}
use Rattle.std.proofs.Common.{inr, ◌∙◌}
use Rattle.std.proofs.lemmas.Option.{slice_get_within}
use Rattle.snap_pins.specs.declared.Pin.{Pin}
use Rattle.snap_pins.specs.Taken.{IsPinned, IsLeast}

-- of a given number and that of each pin in the first n places: the least
pub record IsLeastOf (pins : List (Option Pin)) (number : Pin → ℕ) (given n least : ℕ) : Type 0 where
  pub at_most : least ≤ given
  pub pinned : (place : ℕ) (pin : Pin) → place < n → IsPinned pins place pin → least ≤ number pin
  pub met : (least ≡ given) ⊎ ((place : ℕ) × (pin : Pin) × IsPinned pins place pin × (least ≡ number pin))

-- a free place changes nothing
pub free_more : (pins : List (Option Pin)) (number : Pin → ℕ) (given n least : ℕ)
    → IsLeastOf pins number given n least → slice_get pins n ≡ Some None → IsLeastOf pins number given (n + 1) least
free_more pins number given n least holds at =
    record {
      at_most = holds.at_most;
      pinned = λ place pin below is. free_place place pin below is;
      met = holds.met;
    }
  where
    free_place : (place : ℕ) (pin : Pin) → place < n + 1 → IsPinned pins place pin → least ≤ number pin
    free_place place pin below is = grind (arith, holds.pinned)

either_min : (a b : ℕ) → (min a b ≡ a) ⊎ (min a b ≡ b)
either_min a b = grind arith

-- the least of it and one pin more
pub pin_more : (pins : List (Option Pin)) (number : Pin → ℕ) (given n least : ℕ) (added : Pin)
    → IsLeastOf pins number given n least → slice_get pins n ≡ Some (Some added)
    → IsLeastOf pins number given (n + 1) (min least (number added))
pin_more pins number given n least added holds at =
    record {
      at_most = grind (arith, holds.at_most);
      pinned = λ place pin below is. pinned_place place pin below is;
      met = met_by;
    }
  where
    pinned_place : (place : ℕ) (pin : Pin) → place < n + 1 → IsPinned pins place pin
        → min least (number added) ≤ number pin
    pinned_place place pin below is = grind (arith, holds.pinned)

    met_by : (min least (number added) ≡ given)
        ⊎ ((place : ℕ) × (pin : Pin) × IsPinned pins place pin × (min least (number added) ≡ number pin))
    met_by =
        elim (either_min least (number added)) [
          | inl is_least ↦ elim holds.met
              [ inl is ↦ inl (is_least ∙ is) | inr of ↦ inr (of.0, of.1, of.2, is_least ∙ of.3) ]
          | inr is_added ↦ inr (n, added, at, is_added)
        ]

-- of all places
pub all_places : (pins : List (Option Pin)) (number : Pin → ℕ) (given n least : ℕ)
    → IsLeastOf pins number given n least → n ≡ length pins → IsLeast pins number given least
all_places pins number given n least holds all =
    record {
      at_most = holds.at_most;
      pinned = λ place pin is. pinned_place place pin is;
      met = holds.met;
    }
  where
    pinned_place : (place : ℕ) (pin : Pin) → IsPinned pins place pin → least ≤ number pin
    pinned_place place pin is = holds.pinned place pin (rw all (slice_get_within pins place (Some pin) is)) is
