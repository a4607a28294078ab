-- Lists of bytes that a program compares.
use Rattle.std.proofs.Common.{◌≡◌, ◌≢◌, ◌⊎◌, ℕ, inl, inr, Bool, true, false, not, eqb, List, [], ◌∷◌, refl, sym, subst}
use Rattle.std.proofs.Common.{◌∙◌}
use Rattle.std.specs.Cmp.Lexicographic.{pointwise}
use Rattle.std.proofs.lemmas.Bool.Decides.{eqb_tells}

pub same_bytes : (a b : List ℕ) → pointwise eqb a b ≡ true → a ≡ b
same_bytes [] [] e = refl
same_bytes [] (y ∷ ys) e = absurd (cc)
same_bytes (x ∷ xs) [] e = absurd (cc)
same_bytes (x ∷ xs) (y ∷ ys) e = elim (eqb_tells x y) [
  | inl h ↦ let t = same_bytes xs ys (rw h.0 at e) in λ i. h.1 i ∷ t i
  | inr n ↦ absurd (let z : false ≡ true = rw n.0 at e in cc)
]

pub pointwise_itself : (a : List ℕ) → pointwise eqb a a ≡ true
pointwise_itself [] = refl
pointwise_itself (x ∷ xs) = elim (eqb_tells x x) [ inl h ↦ rw h.0 (pointwise_itself xs) | inr n ↦ absurd (n.1 refl) ]

pub other_bytes : (a b : List ℕ) → pointwise eqb a b ≡ false → a ≢ b
other_bytes a b e s =
    let t : pointwise eqb a b ≡ true = subst (λ x. pointwise eqb a x ≡ true) s (pointwise_itself a) in cc

not_true : (x : Bool) → true ≡ not x → x ≡ false
not_true true h = absurd (cc)
not_true false h = refl

not_false : (x : Bool) → false ≡ not x → x ≡ true
not_false true h = refl
not_false false h = absurd (cc)

-- what `a != b` says
pub told_other : (a b : List ℕ) (r : Bool) → r ≡ not (pointwise eqb a b) → r ≡ true → b ≢ a
told_other a b r e t s = other_bytes a b (not_true (pointwise eqb a b) (sym t ∙ e)) (sym s)

pub told_same : (a b : List ℕ) (r : Bool) → r ≡ not (pointwise eqb a b) → r ≡ false → b ≡ a
told_same a b r e f = sym (same_bytes a b (not_false (pointwise eqb a b) (sym f ∙ e)))

pub same_or_other : (a b : List ℕ) → (a ≡ b) ⊎ (a ≢ b)
same_or_other a b = by (pointwise eqb a b) refl
  where
    by : (r : Bool) → pointwise eqb a b ≡ r → (a ≡ b) ⊎ (a ≢ b)
    by true e = inl (same_bytes a b e)
    by false e = inr (other_bytes a b e)
