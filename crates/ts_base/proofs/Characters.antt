-- The bytes of a character.
use Rattle.std.proofs.Common.{◌≡◌, ℕ, ◌+◌, ◌/◌, ◌%◌, ◌<◌, ◌≤◌, ◌⊎◌, inl, inr, List, [], ◌∷◌, length, Bool, true, false}
use Rattle.std.proofs.Common.{cond, nat_lt, refl, ap, ◌∙◌, arith}
use Rattle.std.proofs.lemmas.Bool.Decides.{nat_tests}
use Rattle.std.specs.Char.{encode_utf8}
use Rattle.std.proofs.lemmas.Str.{encode_ascii}
use lib.Utf8.{encode}

-- P holds of each byte
abbrev pub Each : (ℕ → Type 0) → List ℕ → Type 0
Each P [] = Unit {0}
Each P (b ∷ bs) = P b × Each P bs

-- a byte, and others after it, of which P holds
abbrev pub Some : (ℕ → Type 0) → List ℕ → Type 0
Some P l = (b : ℕ) × (bs : List ℕ) × (l ≡ b ∷ bs) × P b × Each P bs

by_size : (P : ℕ → Type 0) (x y z : Bool) (k l m n : List ℕ) → x ≡ false → Some P l → Some P m → Some P n
    → Some P (cond x k (cond y l (cond z m n)))
by_size P true y z k l m n e f g h = absurd (let no : ⊥ = cc in no)
by_size P false true z k l m n e f g h = f
by_size P false false true k l m n e f g h = g
by_size P false false false k l m n e f g h = h

-- the bytes of a character past ASCII are past ASCII
pub encode_wide : (P : ℕ → Type 0) (c : ℕ) → 128 ≤ c → ((b : ℕ) → 128 ≤ b → P b) → Some P (encode_utf8 c)
unfolding encode
encode_wide P c h f =
    let small : nat_lt c 128 ≡ false = grind (arith, nat_tests) in
    by_size P _ _ _ (c ∷ []) _ _ _ small
    (192 + c / 64, (128 + c % 64) ∷ [], refl, f (192 + c / 64) (omega arith), (f (128 + c % 64) (omega arith), tt)) (
      224 + c / 4096,
      (128 + c / 64 % 64) ∷ (128 + c % 64) ∷ [],
      refl,
      f (224 + c / 4096) (omega arith),
      (f (128 + c / 64 % 64) (omega arith), (f (128 + c % 64) (omega arith), tt)),
    ) (
      240 + c / 262144,
      (128 + c / 4096 % 64) ∷ (128 + c / 64 % 64) ∷ (128 + c % 64) ∷ [],
      refl,
      f (240 + c / 262144) (omega arith),
      (
        f (128 + c / 4096 % 64) (omega arith),
        (f (128 + c / 64 % 64) (omega arith), (f (128 + c % 64) (omega arith), tt)),
      ),
    )

-- the same of any character, where it holds of that as a byte
pub encode_some : (P : ℕ → Type 0) (c : ℕ) → (c < 128 → P c) → ((b : ℕ) → 128 ≤ b → P b) → Some P (encode_utf8 c)
encode_some P c g f =
    let cases : (c < 128) ⊎ (128 ≤ c) = grind arith in
    elim cases [
      | inl s ↦ (c, [], encode_ascii c s, g s, tt)
      | inr w ↦ encode_wide P c w f
    ]

pub no_bytes : (l k : List ℕ) → k ≡ l → length k ≡ 0 → l ≡ []
no_bytes [] k e h = refl
no_bytes (x ∷ l) k e h = absurd (let f : length k ≡ length (x ∷ l) = ap length e in let no : ⊥ = grind arith in no)

-- in an ASCII byte alone
pub one_byte : (c k : ℕ) → c ≡ k → k < 128 → encode_utf8 c ≡ k ∷ []
one_byte c k e h = ap encode_utf8 e ∙ encode_ascii k h
