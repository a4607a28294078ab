-- A list that grew at its end.
use Rattle.std.specs.Prelude.{◌≡◌, ℕ, List, ◌++◌}

abbrev pub Extends : List ℕ → List ℕ → Type 0
Extends old new = (more : List ℕ) × (new ≡ old ++ more)
