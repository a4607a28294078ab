-- What a reader's state says of a text whose front was read.
use Rattle.std.specs.Prelude.{ℕ, List, ◌++◌}

-- After the front, the rest leads to a value exactly where the front and the rest together stand for it.
-- R is what a reader's state says of the rest: the residual of the grammar by the front.
pub record Leads (V : Type 0) (G : List ℕ → V → Type 0) (front : List ℕ) (R : List ℕ → V → Type 0) : Type 0 where
  pub goes_on : (u : List ℕ) (v : V) → R u v → G (front ++ u) v
  pub came_so : (u : List ℕ) (v : V) → G (front ++ u) v → R u v
