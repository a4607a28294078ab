-- The keys of the index, and lists that rise.
use Rattle.std.specs.Prelude.{◌≡◌, ◌≢◌, ◌⊎◌, ℕ, zero, suc, ◌≤◌, List, [], ◌∷◌, length, ⊤}
use Rattle.std.specs.List.{AllByRecursion}
use Rattle.std.specs.Ordering.{nat_cmp}
use Rattle.std.specs.Cmp.Lexicographic.{slice_cmp}
use Rattle.std.specs.Str.{IsUtf8}
use Rattle.std.specs.declared.cmp.Ordering.TheVariants.{Less}
use Rattle.page_types.specs.Numbers.{most_key_text}

-- a lexeme is a text of 1 to 2046 bytes
pub record IsKeyText (text : List ℕ) : Type 0 where
  pub some : 1 ≤ length text
  pub most : length text ≤ most_key_text
  pub utf8 : IsUtf8 text

-- a key is the byte 0 and a lexeme, or the byte 1 alone, the placeholder
abbrev pub IsKey : List ℕ → Type 0
IsKey [] = ⊥
IsKey (zero ∷ text) = IsKeyText text
IsKey (suc zero ∷ rest) = rest ≡ []
IsKey (suc (suc b) ∷ rest) = ⊥

-- keys are in the order of their bytes: the first byte that differs decides, and a proper prefix comes first
abbrev pub KeyLess : List ℕ → List ℕ → Type 0
KeyLess a b = slice_cmp nat_cmp a b ≡ Less

-- a bound of no bytes is above each key
abbrev pub BoundLess : List ℕ → List ℕ → Type 0
BoundLess a b = (a ≢ []) × ((b ≡ []) ⊎ KeyLess a b)

-- each is below all that come after it
abbrev pub Rising : {A : Type 0} → (A → A → Type 0) → List A → Type 0
Rising Below [] = ⊤
Rising Below (x ∷ xs) = AllByRecursion (Below x) xs × Rising Below xs
