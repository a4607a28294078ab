-- A reader's steps, whatever it reads. S are its states and V the values of texts. R says what may still follow in
-- a state:
-- in a text of this size these bytes are left, and with them the whole text has this value.
use Rattle.std.specs.Prelude.{◌≡◌, ℕ, ◌+◌, List, [], ◌∷◌, ◌++◌, length, Bool, true, false, Option, Some, None}

-- what may follow after i bytes
abbrev pub RestAt : (V : Type 0) → (ℕ → List ℕ → V → Type 0) → ℕ → List ℕ → V → Type 0
RestAt V R i u v = R (i + length u) u v

-- after i bytes and these, what may follow in the old state is what may follow in the new one
pub record Moves (S V : Type 0) (R : S → ℕ → List ℕ → V → Type 0) (i : ℕ) (old : S) (bytes : List ℕ)
    (new : S) : Type 0 where
  pub goes_on : (size : ℕ) (u : List ℕ) (v : V) → size ≡ i + length (bytes ++ u)
      → R new size u v → R old size (bytes ++ u) v
  pub came_so : (size : ℕ) (u : List ℕ) (v : V) → size ≡ i + length (bytes ++ u)
      → R old size (bytes ++ u) v → R new size u v

-- the first of these bytes can't be here
pub record Stuck (S V : Type 0) (R : S → ℕ → List ℕ → V → Type 0) (s : S) (bytes : List ℕ) : Type 0 where
  pub never : (c : ℕ) (more : List ℕ) → bytes ≡ c ∷ more
      → (size : ℕ) (u : List ℕ) (v : V) → ¬ R s size (c ∷ u) v

-- the bytes are read, or can't be here
abbrev pub Stepped : (S V : Type 0) → (S → ℕ → List ℕ → V → Type 0) → ℕ → S → List ℕ → Bool → S → Type 0
Stepped S V R i old bytes true new = Moves S V R i old bytes new
Stepped S V R i old bytes false new = Stuck S V R old bytes

-- the text may end here, and then has this value alone
pub record Whole (S V : Type 0) (R : S → ℕ → List ℕ → V → Type 0) (s : S) (value : V) : Type 0 where
  pub found : (size : ℕ) → R s size [] value
  pub only : (size : ℕ) (w : V) → R s size [] w → w ≡ value

-- the text can't end here
pub record Unfinished (S V : Type 0) (R : S → ℕ → List ℕ → V → Type 0) (s : S) : Type 0 where
  pub never : (size : ℕ) (w : V) → ¬ R s size [] w

-- the text ends here with a value, or can't end here
abbrev pub Finished : (S V : Type 0) → (S → ℕ → List ℕ → V → Type 0) → S → Option V → Type 0
Finished S V R s (Some value) = Whole S V R s value
Finished S V R s None = Unfinished S V R s
