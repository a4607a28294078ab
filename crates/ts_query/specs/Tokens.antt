-- The tokens of a query's text: what each stands for, and the offset where it starts. Texts are lists of bytes;
-- every byte
-- that means something is ASCII, so the bytes of a longer character are ordinary bytes, and `\` escapes the first
-- of them.
use Rattle.std.specs.Prelude.{◌≡◌, ◌≢◌, ◌⊎◌, ℕ, ◌-◌, List, [], ◌∷◌, Bool, true, false, length}
use Rattle.ts_base.specs.declared.Weight.{Weight}
use Rattle.ts_base.specs.declared.Weight.TheVariants.{A, B, C, D}
use Rattle.ts_base.specs.declared.Weights.{Weights}
use Rattle.ts_base.specs.Bytes.{IsWhite, IsDigit, IsLetter}
use Rattle.ts_base.specs.Digits.{with_digit}
use Rattle.ts_base.specs.Quoted.{Quoted}
use Rattle.ts_base.specs.Plain.{IsPlain, Plain}
use Rattle.ts_query.specs.declared.TheConstants.{PAST_DISTANCE}
use Rattle.ts_query.specs.Queries.{Operand, Joint, or_joint, and_joint, phrase_joint}

pub data QueryToken : Type 0 where
  word : ℕ → Operand → QueryToken
  bang : QueryToken
  opening : QueryToken
  closing : QueryToken
  sign : ℕ → Joint → QueryToken

-- one of `! & ( ) | < :`
abbrev pub IsDelimiter : ℕ → Type 0
IsDelimiter c = (c ≡ 33)
    ⊎ ((c ≡ 38) ⊎ ((c ≡ 40) ⊎ ((c ≡ 41) ⊎ ((c ≡ 124) ⊎ ((c ≡ 60) ⊎ (c ≡ 58))))))

-- a plain operand ends before white space and a delimiter
abbrev pub EndsOperand : ℕ → Type 0
EndsOperand c = IsWhite c ⊎ IsDelimiter c

-- `*` or a letter of a weight
abbrev pub IsMark : ℕ → Type 0
IsMark c = (c ≡ 42) ⊎ ((w : Weight) × IsLetter c w)

abbrev pub BeginsWithMark : List ℕ → Type 0
BeginsWithMark [] = ⊥
BeginsWithMark (c ∷ u) = IsMark c

abbrev pub no_weights : Weights
no_weights = record { a = false; b = false; c = false; d = false }

abbrev pub with_weight : Weight → Weights → Weights
with_weight A w = record w { a = true }
with_weight B w = record w { b = true }
with_weight C w = record w { c = true }
with_weight D w = record w { d = true }

-- After `:`, with these weights and mark so far, u goes on to those, and r follows. All that can be a mark is one.
pub data Marks : Weights → Bool → List ℕ → Weights → Bool → List ℕ → Type 0 where
  unmarked : (w : Weights) (p : Bool) (r : List ℕ) → ¬ BeginsWithMark r → Marks w p r w p r
  star : (w v : Weights) (p q : Bool) (u r : List ℕ) → Marks w true u v q r
      → Marks w p (42 ∷ u) v q r
  letter : (c : ℕ) (x : Weight) (w v : Weights) (p q : Bool) (u r : List ℕ) → IsLetter c x
      → Marks (with_weight x w) p u v q r → Marks w p (c ∷ u) v q r

abbrev pub operand : List ℕ → Weights → Bool → Operand
operand l w p = record { lexeme = l; weights = w; prefix = p }

-- after the lexeme l, u goes on to the operand o, and r follows
pub data BehindLexeme : List ℕ → List ℕ → Operand → List ℕ → Type 0 where
  bare : (l r : List ℕ) → BehindLexeme l r (operand l no_weights false) r
  marked : (l u r : List ℕ) (w : Weights) (p : Bool) → Marks no_weights false u w p r
      → BehindLexeme l (58 ∷ u) (operand l w p) r

-- After digits of the value n, u goes on to `>` with the value m, and r follows. A number past 16384 stays at
-- 16385, which is
-- too large for an operator.
pub data DistanceNumber : ℕ → List ℕ → ℕ → List ℕ → Type 0 where
  over : (n : ℕ) (r : List ℕ) → DistanceNumber n (62 ∷ r) n r
  digit : (c n m : ℕ) (u r : List ℕ) → IsDigit c
      → DistanceNumber (with_digit PAST_DISTANCE n c) u m r → DistanceNumber n (c ∷ u) m r

-- after `<`; `<->` is `<1>`
pub data Distance : List ℕ → ℕ → List ℕ → Type 0 where
  arrow : (r : List ℕ) → Distance (45 ∷ 62 ∷ r) 1 r
  number : (c m : ℕ) (u r : List ℕ) → IsDigit c
      → DistanceNumber (with_digit PAST_DISTANCE 0 c) u m r → Distance (c ∷ u) m r

-- the offset of the last bytes u of a text of n bytes
abbrev pub offset : ℕ → List ℕ → ℕ
offset n u = n - length u

-- the last bytes of a text of n bytes, from a place between tokens on, have these tokens
pub data Lex : ℕ → List ℕ → List QueryToken → Type 0 where
  done : (n : ℕ) → Lex n [] []
  space : (n c : ℕ) (u : List ℕ) (ks : List QueryToken) → IsWhite c → Lex n u ks → Lex n (c ∷ u) ks
  not_sign : (n : ℕ) (u : List ℕ) (ks : List QueryToken) → Lex n u ks → Lex n (33 ∷ u) (bang ∷ ks)
  open_sign : (n : ℕ) (u : List ℕ) (ks : List QueryToken) → Lex n u ks
      → Lex n (40 ∷ u) (opening ∷ ks)
  close_sign : (n : ℕ) (u : List ℕ) (ks : List QueryToken) → Lex n u ks
      → Lex n (41 ∷ u) (closing ∷ ks)
  and_sign : (n : ℕ) (u : List ℕ) (ks : List QueryToken) → Lex n u ks
      → Lex n (38 ∷ u) (sign (offset n (38 ∷ u)) and_joint ∷ ks)
  or_sign : (n : ℕ) (u : List ℕ) (ks : List QueryToken) → Lex n u ks
      → Lex n (124 ∷ u) (sign (offset n (124 ∷ u)) or_joint ∷ ks)
  phrase_sign : (n d : ℕ) (u r : List ℕ) (ks : List QueryToken) → Distance u d r → Lex n r ks
      → Lex n (60 ∷ u) (sign (offset n (60 ∷ u)) (phrase_joint d) ∷ ks)
  quoted : (n : ℕ) (u l m r : List ℕ) (o : Operand) (ks : List QueryToken) → Quoted [] u l m
      → l ≢ [] → BehindLexeme l m o r → Lex n r ks
      → Lex n (39 ∷ u) (word (offset n (39 ∷ u)) o ∷ ks)
  plain : (n c : ℕ) (u l m r : List ℕ) (o : Operand) (ks : List QueryToken) → IsPlain EndsOperand c
      → c ≢ 39 → Plain EndsOperand (c ∷ []) u l m → BehindLexeme l m o r → Lex n r ks
      → Lex n (c ∷ u) (word (offset n (c ∷ u)) o ∷ ks)
  escape : (n c : ℕ) (u l m r : List ℕ) (o : Operand) (ks : List QueryToken)
      → Plain EndsOperand (c ∷ []) u l m → BehindLexeme l m o r → Lex n r ks
      → Lex n (92 ∷ c ∷ u) (word (offset n (92 ∷ c ∷ u)) o ∷ ks)
