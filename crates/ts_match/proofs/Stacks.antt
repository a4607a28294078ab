-- Sums over a stack.
use Rattle.std.proofs.Common.{◌≡◌, ℕ, ◌+◌, List, [], ◌∷◌, refl}
use Rattle.ts_match.specs.Inner.Stacks.{top_or, below, total}

pub top_and_below : (st : List ℕ) → top_or 0 st + total (below st) ≡ total st
top_and_below [] = refl
top_and_below (x ∷ st) = refl
