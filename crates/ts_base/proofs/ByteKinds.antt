-- What a byte can be.
use Rattle.std.proofs.Common.{◌≡◌, ◌≢◌, ℕ, ◌<◌, ◌≤◌, ◌⊎◌, inl, inr, refl, arith}
use Rattle.ts_base.specs.declared.Weight.{Weight}
use Rattle.ts_base.specs.declared.Weight.TheVariants.{A, B, C, D}
use Rattle.ts_base.specs.Bytes.{IsWhite, IsBlank, IsDigit, IsLetter}

-- ── white space ──
pub white_39 : ¬ IsWhite 39
white_39 h = grind arith

pub white_92 : ¬ IsWhite 92
white_92 h = grind arith

pub white_58 : ¬ IsWhite 58
white_58 h = grind arith

pub white_44 : ¬ IsWhite 44
white_44 h = grind arith

pub white_ascii : (c : ℕ) → IsWhite c → c < 128
white_ascii c w = grind arith

pub blank_ascii : (c : ℕ) → IsBlank c → c < 128
blank_ascii c b = grind arith

-- ── digits ──
pub white_digit : (c : ℕ) → IsWhite c → ¬ IsDigit c
white_digit c h k = grind arith

pub digit_44 : ¬ IsDigit 44
digit_44 h = omega arith

-- ── letters ──
pub letter_digit : (c : ℕ) (w : Weight) → IsLetter c w → ¬ IsDigit c
letter_digit c A h k = grind arith
letter_digit c B h k = grind arith
letter_digit c C h k = grind arith
letter_digit c D h k = grind arith

pub letter_white : (c : ℕ) (w : Weight) → IsLetter c w → ¬ IsWhite c
letter_white c A h k = grind arith
letter_white c B h k = grind arith
letter_white c C h k = grind arith
letter_white c D h k = grind arith

pub letter_44 : (w : Weight) → ¬ IsLetter 44 w
letter_44 A h = grind arith
letter_44 B h = grind arith
letter_44 C h = grind arith
letter_44 D h = grind arith

pub letter_ascii : (c : ℕ) (w : Weight) → IsLetter c w → c < 128
letter_ascii c A h = grind arith
letter_ascii c B h = grind arith
letter_ascii c C h = grind arith
letter_ascii c D h = grind arith

-- a letter has one weight
pub letter_one : (c : ℕ) (v w : Weight) → IsLetter c v → IsLetter c w → v ≡ w
letter_one c A A h k = refl
letter_one c B B h k = refl
letter_one c C C h k = refl
letter_one c D D h k = refl
letter_one c A B h k = absurd (let no : ⊥ = grind arith in no)
letter_one c A C h k = absurd (let no : ⊥ = grind arith in no)
letter_one c A D h k = absurd (let no : ⊥ = grind arith in no)
letter_one c B A h k = absurd (let no : ⊥ = grind arith in no)
letter_one c B C h k = absurd (let no : ⊥ = grind arith in no)
letter_one c B D h k = absurd (let no : ⊥ = grind arith in no)
letter_one c C A h k = absurd (let no : ⊥ = grind arith in no)
letter_one c C B h k = absurd (let no : ⊥ = grind arith in no)
letter_one c C D h k = absurd (let no : ⊥ = grind arith in no)
letter_one c D A h k = absurd (let no : ⊥ = grind arith in no)
letter_one c D B h k = absurd (let no : ⊥ = grind arith in no)
letter_one c D C h k = absurd (let no : ⊥ = grind arith in no)

-- ── each byte is of a kind, or not ──
pub same_or : (m n : ℕ) → (m ≡ n) ⊎ (m ≢ n)
same_or m n = grind arith

pub below_or : (m n : ℕ) → (m < n) ⊎ (n ≤ m)
below_or m n = grind arith

pub white_or : (c : ℕ) → IsWhite c ⊎ (¬ IsWhite c)
white_or c = grind arith

pub digit_or : (c : ℕ) → IsDigit c ⊎ (¬ IsDigit c)
digit_or c = grind arith

letter_at : (c : ℕ) (w : Weight) → IsLetter c w ⊎ (¬ IsLetter c w)
letter_at c A = grind arith
letter_at c B = grind arith
letter_at c C = grind arith
letter_at c D = grind arith

pub letter_or : (c : ℕ) → ((w : Weight) × IsLetter c w) ⊎ ((w : Weight) → ¬ IsLetter c w)
letter_or c = elim (letter_at c A) [
  | inl h ↦ inl (A, h)
  | inr a ↦ elim (letter_at c B) [
    | inl h ↦ inl (B, h)
    | inr b ↦ elim (letter_at c C) [
      | inl h ↦ inl (C, h)
      | inr k ↦ elim (letter_at c D) [
        | inl h ↦ inl (D, h)
        | inr d ↦ inr (λ w. elim w as (λ x. ¬ IsLetter c x) [ A ↦ a | B ↦ b | C ↦ k | D ↦ d ])
      ]
    ]
  ]
]
