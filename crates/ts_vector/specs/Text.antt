-- The text of a vector. Each relation takes what was read before, and says how the bytes go on.
-- The size is that of the whole text: what is left of it says the offset at which a lexeme starts.
use Rattle.std.specs.Prelude.{◌≡◌, ◌≢◌, ℕ, suc, ◌-◌, ◌<◌, ◌≤◌, List, [], ◌∷◌, ◌++◌, ◌⊎◌, length, map, All}
use Rattle.ts_base.specs.declared.TheConstants.{LONGEST_LEXEME, LAST_POSITION}
use Rattle.ts_base.specs.declared.Weight.{Weight}
use Rattle.ts_base.specs.declared.Weight.TheVariants.{D}
use Rattle.ts_base.specs.Bytes.{IsWhite, IsDigit, IsLetter}
use Rattle.ts_base.specs.Digits.{with_digit}
use Rattle.ts_base.specs.Quoted.{Quoted}
use Rattle.ts_base.specs.Plain.{IsPlain, Plain}
use Rattle.ts_base.specs.Vectors.{Position, Entry, Vector, content_size}
use Rattle.ts_base.specs.declared.TheConstants.{SIZE_LIMIT}
use Rattle.ts_vector.specs.Normal.{IsNormalFormOf}

-- a lexeme as it is written, the offset at which it starts, and its positions
pub record Written : Type 0 where
  pub start : ℕ
  pub lexeme : List ℕ
  pub positions : List Position

-- a plain lexeme ends before white space and a colon
abbrev pub EndsItem : ℕ → Type 0
EndsItem c = IsWhite c ⊎ (c ≡ 58)

-- the end, or white space
abbrev pub IsParted : List ℕ → Type 0
IsParted [] = Unit {0}
IsParted (c ∷ u) = IsWhite c

abbrev pub position : ℕ → Weight → Position
position n w = record { at = n; weight = w }

abbrev pub written : ℕ → List ℕ → List Position → Written
written s l ps = record { start = s; lexeme = l; positions = ps }

mutual
  -- in a position whose number so far is n; past 16383 it stays there
  pub data PositionNumber : ℕ → List Position → List ℕ → List Position → List ℕ → Type 0 where
    digit : (c n : ℕ) (a : List Position) (u : List ℕ) (ps : List Position) (r : List ℕ)
        → IsDigit c → PositionNumber (with_digit LAST_POSITION n c) a u ps r
        → PositionNumber n a (c ∷ u) ps r
    letter : (c n : ℕ) (w : Weight) (a : List Position) (u : List ℕ) (ps : List Position)
        (r : List ℕ) → 0 < n → IsLetter c w → BehindPosition (a ++ position n w ∷ []) u ps r
        → PositionNumber n a (c ∷ u) ps r
    bare : (n : ℕ) (a : List Position) (u : List ℕ) (ps : List Position) (r : List ℕ) → 0 < n
        → BehindPosition (a ++ position n D ∷ []) u ps r → PositionNumber n a u ps r

  -- after a position
  pub data BehindPosition : List Position → List ℕ → List Position → List ℕ → Type 0 where
    last : (a : List Position) (r : List ℕ) → IsParted r → BehindPosition a r a r
    comma : (a : List Position) (u : List ℕ) (ps : List Position) (r : List ℕ)
        → PositionNumber 0 a u ps r → BehindPosition a (44 ∷ u) ps r

mutual
  -- between items: those so far, the bytes, and all of them
  pub data Items (size : ℕ) : List Written → List ℕ → List Written → Type 0 where
    done : (a : List Written) → Items size a [] a
    space : (c : ℕ) (a : List Written) (u : List ℕ) (v : List Written) → IsWhite c
        → Items size a u v → Items size a (c ∷ u) v
    quoted : (a : List Written) (u l r : List ℕ) (v : List Written) → Quoted [] u l r → l ≢ []
        → LexemeTail size (size - suc (length u)) a l r v → Items size a (39 ∷ u) v
    plain : (c : ℕ) (a : List Written) (u l r : List ℕ) (v : List Written) → IsPlain EndsItem c
        → c ≢ 39 → Plain EndsItem (c ∷ []) u l r → LexemeTail size (size - suc (length u)) a l r v
        → Items size a (c ∷ u) v
    escape : (c : ℕ) (a : List Written) (u l r : List ℕ) (v : List Written)
        → Plain EndsItem (c ∷ []) u l r → LexemeTail size (size - suc (suc (length u))) a l r v
        → Items size a (92 ∷ c ∷ u) v

  -- after the lexeme l that starts at s
  pub data LexemeTail (size : ℕ) : ℕ → List Written → List ℕ → List ℕ → List Written → Type 0 where
    alone : (s : ℕ) (a : List Written) (l r : List ℕ) (v : List Written)
        → Items size (a ++ written s l [] ∷ []) r v → LexemeTail size s a l r v
    numbered : (s : ℕ) (a : List Written) (l u : List ℕ) (ps : List Position) (r : List ℕ)
        (v : List Written) → PositionNumber 0 [] u ps r
        → Items size (a ++ written s l ps ∷ []) r v → LexemeTail size s a l (58 ∷ u) v

-- the text has these items, in their order in the text
abbrev pub IsVectorText : List ℕ → List Written → Type 0
IsVectorText text items = Items (length text) [] text items

-- the first lexeme of more than 2046 bytes starts there
abbrev pub FirstLong : List Written → ℕ → Type 0
FirstLong [] at = ⊥
FirstLong (item ∷ items) at = ((LONGEST_LEXEME < length item.lexeme) × (at ≡ item.start))
    ⊎ ((length item.lexeme ≤ LONGEST_LEXEME) × FirstLong items at)

abbrev pub AllShort : List Written → Type 0
AllShort items = All (λ item. length item.lexeme ≤ LONGEST_LEXEME) items

abbrev pub entry_of : Written → Entry
entry_of item = record { lexeme = item.lexeme; positions = item.positions }

abbrev pub entries : List Written → List Entry
entries items = map entry_of items

-- the text is within the limits, and the vector is the normal form of its items
pub record IsTextOf (text : List ℕ) (vector : Vector) : Type 0 where
  pub items : List Written
  pub text_of : IsVectorText text items
  pub fit : AllShort items
  pub form : IsNormalFormOf (entries items) vector
  pub small : content_size vector < SIZE_LIMIT
