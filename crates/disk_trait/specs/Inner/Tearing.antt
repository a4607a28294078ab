-- What a replay of events looks for and what it leaves.
use Rattle.std.specs.Prelude.{◌≡◌, ℕ, ◌≤◌, List, [], ◌∷◌, length}
use Rattle.disk_trait.specs.Device.{Torn}
use Rattle.disk_trait.specs.declared.past.Change.{Change}
use Rattle.disk_trait.specs.declared.past.Change.TheVariants.{Write, Sync}
use Rattle.disk_trait.specs.declared.past.Event.{Event}

-- what a write leaves that a crash cut short, and nothing of a sync
abbrev pub IsTornBy : Change → List ℕ → List ℕ → Type 0
IsTornBy (Write at bytes done) old new = Torn at (length bytes.items) old new
IsTornBy Sync old new = Unit {0}

-- a sync that is not past a moment
abbrev pub IsSyncBy : ℕ → Event → Type 0
IsSyncBy m e = (e.moment ≤ m) × (e.change ≡ Sync)

-- none of these is such a sync
abbrev pub HasNoSync : ℕ → List Event → Type 0
HasNoSync m [] = Unit {0}
HasNoSync m (e ∷ es) = (IsSyncBy m e → ⊥) × HasNoSync m es
