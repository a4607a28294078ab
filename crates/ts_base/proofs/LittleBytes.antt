-- Numbers in bytes belong to no other number.
use Rattle.std.proofs.Common.{◌≡◌, ℕ, ◌^◌, ◌<◌, List, [], ◌∷◌, ◌++◌, length, refl, sym, ◌∙◌, ap, arith}
use Rattle.byteorder.specs.Endian.{little_bytes, little_number}
use Rattle.byteorder.specs.Numbers.{little_number-reads_back, length-bytes_low_first}

-- fronts of one length
pub same_fronts : {X : Type 0} → (a b x y : List X) → length a ≡ length b → a ++ x ≡ b ++ y → (a ≡ b) × (x ≡ y)
same_fronts [] [] x y n e = (refl, e)
same_fronts [] (c ∷ b) x y n e = absurd (omega arith)
same_fronts (c ∷ a) [] x y n e = absurd (omega arith)
same_fronts (c ∷ a) (d ∷ b) x y n e =
    let k : length a ≡ length b = omega arith in
    let t : a ++ x ≡ b ++ y = cc in
    let r = same_fronts a b x y k t in
    let h : c ≡ d = cc in
    (λ i. h i ∷ r.0 i, r.1)

-- two numbers that fit into k bytes, and what follows them
pub little_same : (k m n : ℕ) (x y : List ℕ) → m < 256 ^ k → n < 256 ^ k → little_bytes k m ++ x ≡ little_bytes k n ++ y
    → (m ≡ n) × (x ≡ y)
little_same k m n x y p q e = (
  sym (little_number-reads_back k m x p) ∙ ap (λ bytes. little_number k bytes) e ∙ little_number-reads_back k n y q,
  (same_fronts (little_bytes k m) (little_bytes k n) x y
      (length-bytes_low_first 0 k m ∙ sym (length-bytes_low_first 0 k n)) e).1,
)
