-- A tree of greatest numbers over a row of numbers: node 1 is the root, node i has the nodes 2 * i and
-- 2 * i + 1 below it, and the row is at the nodes from `width` on.
use Rattle.std.specs.Prelude.{◌≡◌, ◌≢◌, ◌⊎◌, ℕ, ◌+◌, ◌*◌, ◌^◌, ◌<◌, ◌≤◌, max, List, length, get_or}

-- a node is the greater of the two below it
abbrev pub IsPeak : List ℕ → ℕ → Type 0
IsPeak t i = get_or t i 0 ≡ max (get_or t (2 * i) 0) (get_or t (2 * i + 1) 0)

-- each node above the row is the greater of the two below it, but for node `but`
abbrev pub ArePeaksBut : ℕ → ℕ → List ℕ → Type 0
ArePeaksBut but width t = (i : ℕ) → 0 < i → i < width → i ≢ but → IsPeak t i

-- so wide is the row: 0, or a power of 2, below 2 ^ 21
pub record IsWidth (width : ℕ) : Type 0 where
  pub small : width < 2 ^ 21
  pub power : (width ≡ 0) ⊎ ((k : ℕ) × (width ≡ 2 ^ k))

-- the tree has its nodes
pub record IsPeakTree (width : ℕ) (t : List ℕ) : Type 0 where
  pub size : length t ≡ 2 * width
  pub peaks : (i : ℕ) → 0 < i → i < width → IsPeak t i

-- A node with so many places of the row below it, of which the first is the node `start`; those of the
-- row from place `from` on, and before it, are below `bound`.
pub record IsReached (width from bound : ℕ) (t : List ℕ) (at span start : ℕ) : Type 0 where
  pub node : 0 < at
  pub levels : ℕ
  pub power : span ≡ 2 ^ levels
  pub start_is : start ≡ at * span
  pub low : width + from ≤ start
  pub high : start < 2 * width
  pub before : (l : ℕ) → width + from ≤ l → l < start → get_or t l 0 < bound

-- the first place of the row, from place `from` on, that isn't below `bound`
pub record IsFirstAt (width from bound : ℕ) (t : List ℕ) (l : ℕ) : Type 0 where
  pub low : width + from ≤ l
  pub high : l < 2 * width
  pub here : bound ≤ get_or t l 0
  pub before : (j : ℕ) → width + from ≤ j → j < l → get_or t j 0 < bound
