-- A lexeme without quotes. `Ends` says before which bytes it ends.
use Rattle.std.specs.Prelude.{◌≢◌, ℕ, List, [], ◌∷◌, ◌++◌}

-- a byte that stands for itself in a plain lexeme
pub record IsPlain (Ends : ℕ → Type 0) (c : ℕ) : Type 0 where
  pub no_end : ¬ Ends c
  pub no_escape : c ≢ 92

-- where a plain lexeme ends
abbrev pub IsPlainEnd : (ℕ → Type 0) → List ℕ → Type 0
IsPlainEnd Ends [] = Unit {0}
IsPlainEnd Ends (c ∷ u) = Ends c

-- After the bytes a of the lexeme, u goes on so that the lexeme is l, and r follows it. `\` before a byte stands
-- for that byte.
pub data Plain (Ends : ℕ → Type 0) : List ℕ → List ℕ → List ℕ → List ℕ → Type 0 where
  ended : (a r : List ℕ) → IsPlainEnd Ends r → Plain Ends a r a r
  plain_escape : (c : ℕ) (a u l r : List ℕ) → Plain Ends (a ++ c ∷ []) u l r → Plain Ends a (92 ∷ c ∷ u) l r
  plain_byte : (c : ℕ) (a u l r : List ℕ) → IsPlain Ends c → Plain Ends (a ++ c ∷ []) u l r
      → Plain Ends a (c ∷ u) l r
