-- A place stays taken when another snapshot is pinned.
use Rattle.std.proofs.Common.{◌≡◌, ℕ, zero, suc, List, [], ◌∷◌, Option, Some, None, slice_get, slice_set, refl, subst}
use Rattle.std.proofs.Common.{sym}
use Rattle.snap_pins.specs.declared.Pin.{Pin}
use Rattle.snap_pins.specs.Taken.{IsFree, IsTaken}

-- the place that a snapshot gets is taken
taken_at : (pins : List (Option Pin)) (place : ℕ) (pin : Pin) → IsFree pins place
    → slice_get (slice_set pins place (Some pin)) place ≡ Some (Some pin)
taken_at [] place pin free = absurd cc
taken_at (p ∷ pins) zero pin free = refl
taken_at (p ∷ pins) (suc place) pin free = taken_at pins place pin free

-- so is one that was taken
stays_at : (pins : List (Option Pin)) (place other : ℕ) (held pin : Pin) → slice_get pins place ≡ Some (Some held)
    → IsFree pins other → slice_get (slice_set pins other (Some pin)) place ≡ Some (Some held)
stays_at [] place other held pin taken free = absurd cc
stays_at (p ∷ pins) zero zero held pin taken free = absurd cc
stays_at (p ∷ pins) zero (suc other) held pin taken free = taken
stays_at (p ∷ pins) (suc place) zero held pin taken free = taken
stays_at (p ∷ pins) (suc place) (suc other) held pin taken free = stays_at pins place other held pin taken free

pub stays_taken : (old first second : List (Option Pin)) (place other : ℕ) (held pin : Pin) → IsFree old place
    → first ≡ slice_set old place (Some held) → IsFree first other → second ≡ slice_set first other (Some pin)
    → IsTaken second place
stays_taken old first second place other held pin free is_first free_other is_second =
    let here : slice_get first place ≡ Some (Some held) = rw is_first (taken_at old place held free) in
    (held, rw is_second (stays_at first place other held pin here free_other))
