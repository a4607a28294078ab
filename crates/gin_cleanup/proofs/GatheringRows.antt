-- The pairs of rows that are gathered one after the other.
use Rattle.std.proofs.Common.{◌≡◌, ◌⊎◌, ◌+◌, ℕ, zero, suc, List, [], ◌∷◌, take, refl, sym, subst, ◌∙◌, inl, inr, arith}
use Rattle.std.specs.Prelude.{◌↔◌, Some}
use Rattle.std.specs.List.{slice_get}
use Rattle.ts_base.specs.Keys.{Key}
use Rattle.page_types.specs.declared.page.Row.{Row}
use Rattle.core_state.specs.Log.{In}
use Rattle.core_state.specs.Index.{InRows}
use Rattle.gin_cleanup.specs.Gathered.{HasPair}
use Rattle.gin_cleanup.proofs.RowLists.{in_take}

-- one more of the first of a list
next_told : {A : Type 0} (xs : List A) (j : ℕ) (x y : A) → slice_get xs j ≡ Some x → In y (take (suc j) xs)
    → In y (take j xs) ⊎ (y ≡ x)
next_told [] j x y e i = absurd (cc)
next_told (z ∷ xs) zero x y e (inl f) = let g : z ≡ x = cc in inr (f ∙ g)
next_told (z ∷ xs) zero x y e (inr i) = absurd i
next_told (z ∷ xs) (suc j) x y e (inl f) = inl (inl f)
next_told (z ∷ xs) (suc j) x y e (inr i) = elim (next_told xs j x y e i) [ inl k ↦ inl (inr k) | inr f ↦ inr f ]

next_back : {A : Type 0} (xs : List A) (j : ℕ) (x y : A) → slice_get xs j ≡ Some x → In y (take j xs) ⊎ (y ≡ x)
    → In y (take (suc j) xs)
next_back [] j x y e h = absurd (cc)
next_back (z ∷ xs) zero x y e (inl i) = absurd i
next_back (z ∷ xs) zero x y e (inr f) = let g : z ≡ x = cc in inl (f ∙ sym g)
next_back (z ∷ xs) (suc j) x y e (inl (inl f)) = inl f
next_back (z ∷ xs) (suc j) x y e (inl (inr i)) = inr (next_back xs j x y e (inl i))
next_back (z ∷ xs) (suc j) x y e (inr f) = inr (next_back xs j x y e (inr f))

next_is : {A : Type 0} (xs : List A) (j : ℕ) (x y : A) → slice_get xs j ≡ Some x
    → In y (take (j + 1) xs) ↔ (In y (take j xs) ⊎ (y ≡ x))
next_is xs j x y e =
    let same : j + 1 ≡ suc j = omega arith in (
      λ i. next_told xs j x y e (subst (λ (n : ℕ). In y (take n xs)) same i),
      λ h. subst (λ (n : ℕ). In y (take n xs)) (sym same) (next_back xs j x y e h),
    )

-- the pairs of one key more of a row, and of one row more
pub keys_next : (keys : List Key) (j item : ℕ) (key k : Key) (i : ℕ) → slice_get keys j ≡ Some key
    → ((item ≡ i) × In k (take (j + 1) keys)) ↔ (((item ≡ i) × In k (take j keys)) ⊎ ((k ≡ key) × (i ≡ item)))
keys_next keys j item key k i at = (
  λ r. elim ((next_is keys j key k at).0 r.1) [ inl t ↦ inl (r.0, t) | inr e ↦ inr (e, sym r.0) ],
  λ h. elim h [
    | inl t ↦ (t.0, (next_is keys j key k at).1 (inl t.1))
    | inr e ↦ (sym e.1, (next_is keys j key k at).1 (inr e.0))
  ],
)

pub rows_next : (rows : List Row) (j : ℕ) (row : Row) (k : Key) (i : ℕ) → slice_get rows j ≡ Some row
    → InRows (take (j + 1) rows) k i ↔ (InRows (take j rows) k i ⊎ HasPair row k i)
rows_next rows j row k i at = (
  λ r. elim ((next_is rows j row r.0 at).0 r.1) [
    | inl t ↦ inl (r.0, t, r.2, r.3)
    | inr e ↦ inr (subst (λ (w : Row). HasPair w k i) e (r.2, r.3))
  ],
  λ h. elim h [
    | inl t ↦ (t.0, (next_is rows j row t.0 at).1 (inl t.1), t.2, t.3)
    | inr p ↦ (row, (next_is rows j row row at).1 (inr refl), p.0, p.1)
  ],
)

pub rows_part : (rows : List Row) (n : ℕ) (k : Key) (i : ℕ) → InRows (take n rows) k i → InRows rows k i
rows_part rows n k i r = (r.0, in_take n r.0 rows r.1, r.2, r.3)

-- what comes in two steps
pub two_steps : {Old Mid New A B C : Type 0} → Mid ↔ (Old ⊎ A) → New ↔ (Mid ⊎ B) → C ↔ (A ⊎ B) → New ↔ (Old ⊎ C)
two_steps first second both = (
  λ n. elim (second.0 n) [
    | inl m ↦ elim (first.0 m) [ inl o ↦ inl o | inr a ↦ inr (both.1 (inl a)) ]
    | inr b ↦ inr (both.1 (inr b))
  ],
  λ h. second.1 (elim h [
    | inl o ↦ inl (first.1 (inl o))
    | inr c ↦ elim (both.0 c) [ inl a ↦ inl (first.1 (inr a)) | inr b ↦ inr b ]
  ]),
)
