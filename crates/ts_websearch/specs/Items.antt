-- The items of a web text. Texts are lists of bytes; every byte that means something is ASCII, so
-- the bytes of a longer character are ordinary bytes.
use Rattle.std.specs.Prelude.{◌≡◌, ◌≢◌, ◌⊎◌, ℕ, List, [], ◌∷◌, ◌++◌, All, Bool, true, false}
use Rattle.ts_base.specs.Bytes.{IsWhite, BeginsWithout}

-- An item is negated or not. One in quotes stands for the text within; a row of characters is
-- for itself, and a lone hyphen for no text.
pub data WebItem : Type 0 where
  quoted : Bool → List ℕ → WebItem
  row : Bool → List ℕ → WebItem
  hyphen : WebItem

abbrev pub IsNoQuote : ℕ → Type 0
IsNoQuote c = c ≢ 34

-- a row has no white space and no `"`
abbrev pub IsRowByte : ℕ → Type 0
IsRowByte c = (¬ IsWhite c) × IsNoQuote c

-- after its first `"`, u has the text t up to the next `"`, which r follows, or up to the end
pub record QuotedText (u t r : List ℕ) : Type 0 where
  pub bytes : All IsNoQuote t
  pub ends : (u ≡ t ++ 34 ∷ r) ⊎ ((u ≡ t) × (r ≡ []))

-- u begins with the row t, which is as long as it can be, and r follows
pub record RowText (u t r : List ℕ) : Type 0 where
  pub bytes : All IsRowByte t
  pub whole : u ≡ t ++ r
  pub ends : BeginsWithout IsRowByte r

-- a hyphen is lone before white space and at the end
abbrev pub IsLoneBefore : List ℕ → Type 0
IsLoneBefore [] = Unit {0}
IsLoneBefore (c ∷ u) = IsWhite c

-- White space may be between items. One `-` right before a quoted item or a row negates it; a
-- row that isn't negated begins with none.
pub data AreItems : List ℕ → List WebItem → Type 0 where
  no_item : AreItems [] []
  white_space : (c : ℕ) (u : List ℕ) (is : List WebItem) → IsWhite c → AreItems u is
      → AreItems (c ∷ u) is
  quotation : (u t r : List ℕ) (is : List WebItem) → QuotedText u t r → AreItems r is
      → AreItems (34 ∷ u) (quoted false t ∷ is)
  not_quotation : (u t r : List ℕ) (is : List WebItem) → QuotedText u t r → AreItems r is
      → AreItems (45 ∷ 34 ∷ u) (quoted true t ∷ is)
  plain_row : (c : ℕ) (u t r : List ℕ) (is : List WebItem) → c ≢ 45 → RowText (c ∷ u) (c ∷ t) r
      → AreItems r is → AreItems (c ∷ u) (row false (c ∷ t) ∷ is)
  not_row : (c : ℕ) (u t r : List ℕ) (is : List WebItem) → RowText (c ∷ u) (c ∷ t) r
      → AreItems r is → AreItems (45 ∷ c ∷ u) (row true (c ∷ t) ∷ is)
  lone_hyphen : (u : List ℕ) (is : List WebItem) → IsLoneBefore u → AreItems u is
      → AreItems (45 ∷ u) (hyphen ∷ is)
