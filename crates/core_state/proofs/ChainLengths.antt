-- How long a chain of pages may be: no page is on it twice.
use Rattle.std.proofs.Common.{◌≡◌, ◌≢◌, ◌⊎◌, ◌<◌, ◌≤◌, ℕ, zero, suc, ◌==◌, cond, List, [], ◌∷◌, ◌++◌, length, refl, sym}
use Rattle.std.proofs.Common.{ap, subst, ◌∙◌, inl, inr, arith}
use Rattle.core_state.specs.Log.{Pages, In}
use Rattle.core_state.specs.Documents.{IsChain}
use Rattle.core_state.proofs.Histories.{chain_one}
use Rattle.core_state.proofs.RunningOnes.{same_or_other, on_same, on_other}
use Rattle.core_state.proofs.Trees.Behind.{Once}

-- a list without the first n in it
abbrev out : ℕ → List ℕ → List ℕ
out n [] = []
out n (x ∷ xs) = cond (x == n) xs (x ∷ out n xs)

-- the first is n, or it isn't
by_first : (P : List ℕ → Type 0) (n x : ℕ) (xs : List ℕ) → (x ≡ n → P xs) → (x ≢ n → P (x ∷ out n xs))
    → P (out n (x ∷ xs))
by_first P n x xs same other = elim (same_or_other x n) [
  | inl e ↦ subst P (sym (on_same x n xs (x ∷ out n xs) e)) (same e)
  | inr off ↦ subst P (sym (on_other x n xs (x ∷ out n xs) off)) (other off)
]

out_in : (n : ℕ) (xs : List ℕ) (y : ℕ) → In y (out n xs) → In y xs
out_in n [] y = λ i. i
out_in n (x ∷ xs) y = by_first (λ (zs : List ℕ). In y zs → In y (x ∷ xs)) n x xs (λ e i. inr i)
    (λ off i. elim i [ inl e ↦ inl e | inr j ↦ inr (out_in n xs y j) ])

out_long : (n : ℕ) (xs : List ℕ) → length xs ≤ suc (length (out n xs))
out_long n [] = omega arith
out_long n (x ∷ xs) = by_first (λ (zs : List ℕ). suc (length xs) ≤ suc (length zs)) n x xs (λ e. omega arith)
    (λ off. omega (arith, out_long n xs))

out_once : (n : ℕ) (xs : List ℕ) → Once xs → Once (out n xs)
out_once n [] o = o
out_once n (x ∷ xs) o = by_first Once n x xs (λ e. o.1) (λ off. (λ i. o.0 (out_in n xs x i), out_once n xs o.1))

out_none : (n : ℕ) (xs : List ℕ) → Once xs → In n (out n xs) → ⊥
out_none n [] o = λ i. i
out_none n (x ∷ xs) o = by_first (λ (zs : List ℕ). In n zs → ⊥) n x xs
    (λ e i. o.0 (subst (λ (z : ℕ). In z xs) (sym e) i))
    (λ off i. elim i [ inl e ↦ off (sym e) | inr j ↦ out_none n xs o.1 j ])

-- so many numbers are below n at most
pub few_below : (n : ℕ) (xs : List ℕ) → Once xs → ((x : ℕ) → In x xs → x < n) → length xs ≤ n
few_below zero [] o below = omega arith
few_below zero (x ∷ xs) o below = omega (arith, below x (inl refl))
few_below (suc n) xs o below =
    let rest : length (out n xs) ≤ n = few_below n (out n xs) (out_once n xs o)
    (λ x i. less x (below x (out_in n xs x i)) (λ e. out_none n xs o (subst (λ (z : ℕ). In z (out n xs)) e i))) in
    omega (arith, rest, out_long n xs)
  where
    less : (x : ℕ) → x < suc n → x ≢ n → x < n
    less x l off = elim (same_or_other x n) [ inl e ↦ absurd (off e) | inr other ↦ omega (arith, l, other) ]

-- the chain from a page of a chain
chain_from : (P : Pages) (p : ℕ) (qs : List ℕ) (q : ℕ) → IsChain P p qs → In q qs
    → (front : List ℕ) × (back : List ℕ) × (qs ≡ front ++ back) × IsChain P q back × (0 < length back)
chain_from P p [] q c i = absurd i
chain_from P p (r ∷ qs) q c (inl e) =
    let at : p ≡ q = c.0 ∙ sym e in
    ([], r ∷ qs, refl, subst (λ (z : ℕ). IsChain P z (r ∷ qs)) at c, omega arith)
chain_from P p (r ∷ qs) q c (inr i) =
    let f = chain_from P (P r).right qs q c.2 i in
    (r ∷ f.0, f.1, ap (λ (zs : List ℕ). r ∷ zs) f.2, f.3, f.4)

not_shorter : (front back : List ℕ) (r : ℕ) → back ≡ r ∷ front ++ back → ⊥
not_shorter front back r e = omega (arith, ap length e, Rattle.std.proofs.Common.length-append front back)

-- no page is on a chain twice
pub chain_once : (P : Pages) (p : ℕ) (qs : List ℕ) → IsChain P p qs → Once qs
chain_once P p [] c = tt
chain_once P p (r ∷ qs) c = (again, chain_once P (P r).right qs c.2)
  where
    again : In r qs → ⊥
    again i =
        let f = chain_from P (P r).right qs r c.2 i in
        let whole : IsChain P r (r ∷ qs) = subst (λ (z : ℕ). IsChain P z (r ∷ qs)) c.0 c in
        let same : f.1 ≡ r ∷ qs = chain_one P r f.1 (r ∷ qs) f.3 whole in
        not_shorter f.0 f.1 r (same ∙ ap (λ (zs : List ℕ). r ∷ zs) f.2)
