-- The witnesses of the rule, and sums over all passes.
use Rattle.std.specs.Prelude.{ℕ, ◌+◌, ◌==◌, cond, List, [], ◌∷◌}
use Rattle.core_state.specs.Log.{Log, Pages}

pub record Shape (J : Type 0) : Type 0 where
  -- how many frames
  pub frames : ℕ
  -- the log, and its pages
  pub log : Log
  pub pages : Pages
  -- the journal, at home or as its holder claimed it
  pub journal : J
  -- of a word: 0 where it is free, else 1 more than the seat that has it
  pub holder : ℕ → ℕ
  -- of an xid: 1 more than the seat that may note it
  pub owner : ℕ → ℕ
  -- of a place among the pins: 1 more than the seat whose pin it is
  pub pinner : ℕ → ℕ

-- the sum of f over all views
abbrev pub total : {V : Type 0} → (V → ℕ) → List V → ℕ
total f [] = 0
total f (v ∷ vs) = f v + total f vs

-- how often k is in the list
abbrev pub times : ℕ → List ℕ → ℕ
times k [] = 0
times k (x ∷ xs) = cond (x == k) 1 0 + times k xs
