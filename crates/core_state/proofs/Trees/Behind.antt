-- Lists in which each page is once, and what comes after what.
use Rattle.std.proofs.Common.{◌≡◌, ◌⊎◌, ℕ, List, [], ◌∷◌, refl, sym, subst, inl, inr}
use Rattle.std.specs.Prelude.{⊤}
use Rattle.core_state.specs.Log.{In}

-- q comes after p
abbrev pub Comes : List ℕ → ℕ → ℕ → Type 0
Comes [] p q = ⊥
Comes (x ∷ xs) p q = ((x ≡ p) × In q xs) ⊎ Comes xs p q

-- each page is once
abbrev pub Once : List ℕ → Type 0
Once [] = ⊤
Once (x ∷ xs) = (In x xs → ⊥) × Once xs

pub comes_to : (L : List ℕ) (p q : ℕ) → Comes L p q → In q L
comes_to [] p q c = absurd c
comes_to (x ∷ xs) p q (inl (e, i)) = inr i
comes_to (x ∷ xs) p q (inr c) = inr (comes_to xs p q c)

pub comes_from : (L : List ℕ) (p q : ℕ) → Comes L p q → In p L
comes_from [] p q c = absurd c
comes_from (x ∷ xs) p q (inl (e, i)) = inl (sym e)
comes_from (x ∷ xs) p q (inr c) = inr (comes_from xs p q c)

twice : (x p : ℕ) (xs : List ℕ) → (In x xs → ⊥) → x ≡ p → In p xs → ⊥
twice x p xs off e i = off (subst (λ q. In q xs) (sym e) i)

pub not_itself : (L : List ℕ) (p : ℕ) → Once L → Comes L p p → ⊥
not_itself [] p o c = c
not_itself (x ∷ xs) p o (inl (e, i)) = twice x p xs o.0 e i
not_itself (x ∷ xs) p o (inr c) = not_itself xs p o.1 c

pub comes_on : (L : List ℕ) (a b c : ℕ) → Once L → Comes L a b → Comes L b c → Comes L a c
comes_on [] a b c o m n = absurd m
comes_on (x ∷ xs) a b c o (inl (e, i)) (inl (f, j)) = absurd (twice x b xs o.0 f i)
comes_on (x ∷ xs) a b c o (inl (e, i)) (inr n) = inl (e, comes_to xs b c n)
comes_on (x ∷ xs) a b c o (inr m) (inl (f, j)) = absurd (twice x b xs o.0 f (comes_to xs a b m))
comes_on (x ∷ xs) a b c o (inr m) (inr n) = inr (comes_on xs a b c o.1 m n)

-- the second list has n right after p
pub data Inserts (p n : ℕ) : List ℕ → List ℕ → Type 0 where
  here : {xs : List ℕ} → Inserts p n (p ∷ xs) (p ∷ n ∷ xs)
  there : {xs ys : List ℕ} (x : ℕ) → Inserts p n xs ys → Inserts p n (x ∷ xs) (x ∷ ys)

pub inserted : (p n : ℕ) (L : List ℕ) → In p L → (K : List ℕ) × Inserts p n L K
inserted p n [] i = absurd i
inserted p n (x ∷ xs) (inl e) = (p ∷ n ∷ xs, subst (λ z. Inserts p n (z ∷ xs) (p ∷ n ∷ xs)) e Inserts.here)
inserted p n (x ∷ xs) (inr i) = let k = inserted p n xs i in (x ∷ k.0, Inserts.there x k.1)

at_page : (p n : ℕ) (L K : List ℕ) → Inserts p n L K → In p L
at_page p n _ _ Inserts.here = inl refl
at_page p n _ _ (Inserts.there x i) = inr (at_page p n _ _ i)

pub insert_in : (p n : ℕ) (L K : List ℕ) → Inserts p n L K → (a : ℕ) → In a L → In a K
insert_in p n _ _ Inserts.here a (inl e) = inl e
insert_in p n _ _ Inserts.here a (inr i) = inr (inr i)
insert_in p n _ _ (Inserts.there x s) a (inl e) = inl e
insert_in p n _ _ (Inserts.there x s) a (inr i) = inr (insert_in p n _ _ s a i)

pub insert_new : (p n : ℕ) (L K : List ℕ) → Inserts p n L K → Comes K p n
insert_new p n _ _ Inserts.here = inl (refl, inl refl)
insert_new p n _ _ (Inserts.there x s) = inr (insert_new p n _ _ s)

pub insert_only : (p n : ℕ) (L K : List ℕ) → Inserts p n L K → (a : ℕ) → In a K → (a ≡ n) ⊎ In a L
insert_only p n _ _ Inserts.here a (inl e) = inr (inl e)
insert_only p n _ _ Inserts.here a (inr (inl e)) = inl e
insert_only p n _ _ Inserts.here a (inr (inr i)) = inr (inr i)
insert_only p n _ _ (Inserts.there x s) a (inl e) = inr (inl e)
insert_only p n _ _ (Inserts.there x s) a (inr i) =
    elim (insert_only p n _ _ s a i) [ inl e ↦ inl e | inr j ↦ inr (inr j) ]

pub insert_keeps : (p n : ℕ) (L K : List ℕ) → Inserts p n L K → (a b : ℕ) → Comes L a b → Comes K a b
insert_keeps p n _ _ Inserts.here a b (inl (e, i)) = inl (e, inr i)
insert_keeps p n _ _ Inserts.here a b (inr c) = inr (inr c)
insert_keeps p n _ _ (Inserts.there x s) a b (inl (e, i)) = inl (e, insert_in p n _ _ s b i)
insert_keeps p n _ _ (Inserts.there x s) a b (inr c) = inr (insert_keeps p n _ _ s a b c)

pub insert_after : (p n : ℕ) (L K : List ℕ) → Once L → Inserts p n L K → (q : ℕ) → Comes L p q → Comes K n q
insert_after p n _ _ o Inserts.here q (inl (e, i)) = inr (inl (refl, i))
insert_after p n _ _ o (Inserts.here {xs}) q (inr c) = absurd (o.0 (comes_from xs p q c))
insert_after p n _ _ o (Inserts.there {xs} x s) q (inl (e, i)) = absurd (twice x p xs o.0 e (at_page p n xs _ s))
insert_after p n _ _ o (Inserts.there x s) q (inr c) = inr (insert_after p n _ _ o.1 s q c)

pub insert_once : (p n : ℕ) (L K : List ℕ) → Once L → (In n L → ⊥) → Inserts p n L K → Once K
insert_once p n _ _ o off Inserts.here = (
  λ i. elim i [ inl e ↦ off (inl (sym e)) | inr j ↦ o.0 j ],
  (λ i. off (inr i), o.1),
)
insert_once p n _ _ o off (Inserts.there {xs} {ys} x s) = (
  λ i. elim (insert_only p n xs ys s x i) [ inl e ↦ off (inl (sym e)) | inr j ↦ o.0 j ],
  insert_once p n xs ys o.1 (λ i. off (inr i)) s,
)
