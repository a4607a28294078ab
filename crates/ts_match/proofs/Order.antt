-- The order of lexemes, and lexemes that begin alike.
use Rattle.std.proofs.Common.{◌≡◌, ◌≢◌, ℕ, ◌<◌, ◌≤◌, ◌⊎◌, true, eqb, List, [], ◌∷◌, length, take, inl, inr, refl, sym}
use Rattle.std.proofs.Common.{ap, ◌∙◌, arith}
use Rattle.std.specs.Prelude.{nat_eq, max}
use Rattle.std.specs.List.{starts_with}
use Rattle.std.specs.Ordering.{nat_cmp}
use Rattle.std.specs.Cmp.{nat_cmp_is}
use Rattle.std.specs.Cmp.Lexicographic.{slice_cmp, pointwise, nat_list_cmp_total}
use Rattle.std.specs.declared.cmp.Ordering.TheVariants.{Less, Equal, Greater}
use Rattle.std.proofs.lemmas.Bool.{cases_order, cases_lt, eqb-true, eq-eqb, and_parts}
use Rattle.ts_base.specs.Lexemes.{IsBefore}

tie : (x : ℕ) → nat_cmp x x ≡ Equal
tie x = sym (nat_cmp_is x x Equal refl)

less : (x y : ℕ) → x < y → nat_cmp x y ≡ Less
less x y h = sym (nat_cmp_is x y Less h)

greater : (x y : ℕ) → y < x → nat_cmp x y ≡ Greater
greater x y h = sym (nat_cmp_is x y Greater h)

pub same_order : (a : List ℕ) → slice_cmp nat_cmp a a ≡ Equal
same_order [] = refl
same_order (x ∷ a) = rw tie (same_order a)

pub not_before_itself : (a : List ℕ) → IsBefore a a → ⊥
not_before_itself a h = let e = sym (same_order a) ∙ h in cc

pub before_trans : (a b c : List ℕ) → IsBefore a b → IsBefore b c → IsBefore a c
before_trans a b c g h = nat_list_cmp_total.trans a b c g h

-- what begins with p is not before p
pub prefix_first : (p a : List ℕ) → starts_with nat_eq a p ≡ true → slice_cmp nat_cmp a p ≢ Less
prefix_first [] [] h e = cc
prefix_first [] (y ∷ a) h e = cc
prefix_first (x ∷ p) [] h e = cc
prefix_first (x ∷ p) (y ∷ a) h e =
    let b = and_parts (eqb x y) (pointwise eqb p (take (length p) a)) h in
    let same : x ≡ y = eqb-true x y b.0 in
    let t : nat_cmp y x ≡ Equal = ap (λ z. nat_cmp y z) same ∙ tie y in
    prefix_first p a b.1 (rw t at e)

-- what is between p and a word that begins with p begins with p
pub between_prefix : (p a b : List ℕ) → slice_cmp nat_cmp a p ≢ Less → IsBefore a b → starts_with nat_eq b p ≡ true
    → starts_with nat_eq a p ≡ true
between_prefix [] a b n h s = refl
between_prefix (x ∷ p) [] b n h s = absurd (n refl)
between_prefix (x ∷ p) (y ∷ a) [] n h s = absurd (let z : ⊥ = cc in z)
between_prefix (x ∷ p) (y ∷ a) (z ∷ b) n h s =
    let f = and_parts (eqb x z) (pointwise eqb p (take (length p) b)) s in
    let e : x ≡ z = eqb-true x z f.0 in
    elim (cases_order y x) [
      | inl q ↦
          let t : nat_cmp y x ≡ Equal = ap (λ k. nat_cmp k x) q ∙ tie x in
          let u : nat_cmp y z ≡ Equal = ap (λ k. nat_cmp y k) (sym e) ∙ t in
          let r = between_prefix p a b (λ l. n (rw t l)) (rw u at h) f.1 in
          rw (eq-eqb x y (sym q)) r
      | inr (inl q) ↦ absurd (n (rw (less y x q) refl))
      | inr (inr q) ↦ absurd (let u : nat_cmp y z ≡ Greater = greater y z (let k = e in omega arith) in
          let v = rw u at h in let w : ⊥ = cc in w)
    ]

-- the greater of two numbers
pub record IsGreater (a b r : ℕ) : Type 0 where
  pub left : a ≤ r
  pub right : b ≤ r
  pub one : (r ≡ a) ⊎ (r ≡ b)

pub greater_is : (a b r : ℕ) → r ≡ max a b → IsGreater a b r
greater_is a b r e = record {
  left = omega arith;
  right = omega arith;
  one = elim (cases_lt a b) [ inl h ↦ inr (omega arith) | inr h ↦ inl (omega arith) ];
}
