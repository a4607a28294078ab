-- A text in quotes: how it is read, and how it is printed.
use Rattle.std.specs.Prelude.{◌≡◌, ◌≢◌, ℕ, ◌||◌, ◌==◌, if◌then◌else◌, List, [], ◌∷◌, ◌++◌}
use Rattle.std.specs.List.{flat_map}
use Rattle.ts_base.specs.Bytes.{BeginsWithQuote}

-- After the opening quote and the bytes a of the text, u goes on so that the text is l, and r follows it.
-- `''` stands for a quote, and `\` before a byte for that byte. The closing quote is no half of a doubled one.
pub data Quoted : List ℕ → List ℕ → List ℕ → List ℕ → Type 0 where
  closed : (a r : List ℕ) → ¬ BeginsWithQuote r → Quoted a (39 ∷ r) a r
  doubled : (a u l r : List ℕ) → Quoted (a ++ 39 ∷ []) u l r → Quoted a (39 ∷ 39 ∷ u) l r
  quoted_escape : (c : ℕ) (a u l r : List ℕ) → Quoted (a ++ c ∷ []) u l r → Quoted a (92 ∷ c ∷ u) l r
  quoted_byte : (c : ℕ) (a u l r : List ℕ) → c ≢ 39 → c ≢ 92 → Quoted (a ++ c ∷ []) u l r
      → Quoted a (c ∷ u) l r

-- a quote or a backslash is twice
abbrev pub doubled_byte : ℕ → List ℕ
doubled_byte c = if (c == 39) || (c == 92) then c ∷ c ∷ [] else c ∷ []

-- the text in quotes
abbrev pub quoted_text : List ℕ → List ℕ
quoted_text l = 39 ∷ (flat_map doubled_byte l ++ 39 ∷ [])

-- a text has one reading at most as a quoted text
abbrev pub QuotedHasOneReading : Type 0
QuotedHasOneReading = (u l m r s : List ℕ) → Quoted [] u l r → Quoted [] u m s → (l ≡ m) × (r ≡ s)

-- a quoted text is read back, where no quote is right after it
abbrev pub QuotedIsReadBack : Type 0
QuotedIsReadBack = (l r : List ℕ) → ¬ BeginsWithQuote r → Quoted [] (flat_map doubled_byte l ++ 39 ∷ r) l r
