-- The keys of rows are gathered in turn.
use Rattle.std.proofs.Common.{◌≡◌, ◌⊎◌, ◌+◌, ◌∷◌, ℕ, List, [], take, refl, sym, subst, inl, inr}
use Rattle.std.specs.Prelude.{◌↔◌, Some, slice_get}
use Rattle.page_types.specs.declared.page.Row.{Row}
use Rattle.page_types.proofs.Cutting.{take_get}
use Rattle.ts_base.specs.Keys.{Key}
use Rattle.core_state.specs.Log.{In}
use Rattle.core_state.specs.Index.{InRows}
use Rattle.core_state.proofs.PageLists.{in_front, in_back, in_either}
use Rattle.gin_cleanup.specs.Gathered.{KeyItems, Has, HasPair, GrowsBy}
use Rattle.gin_cleanup.proofs.RowLists.{in_take}

module _ {A : Type 0} (xs : List A) (k : ℕ) (x : A) (get : slice_get xs k ≡ Some x) where
  pub in_more : (y : A) → In y (take (k + 1) xs) → In y (take k xs) ⊎ (y ≡ x)
  in_more y i = elim (in_either y (take k xs) (x ∷ []) (subst (In y) (take_get xs k x get) i)) [
    | inl j ↦ inl j
    | inr (inl e) ↦ inr e
    | inr (inr none) ↦ absurd none
  ]

  more_in : (y : A) → In y (take k xs) → In y (take (k + 1) xs)
  more_in y i = subst (In y) (sym (take_get xs k x get)) (in_front y (take k xs) (x ∷ []) i)

  pub last_in : In x (take (k + 1) xs)
  last_in = subst (In x) (sym (take_get xs k x get)) (in_back x (take k xs) (x ∷ []) (inl refl))

-- one key more of a row
pub row_more : (old mid new : KeyItems) (keys : List Key) (j : ℕ) (key : Key) (item : ℕ) → slice_get keys j ≡ Some key
    → ((k : Key) (i : ℕ) → Has mid k i ↔ (Has old k i ⊎ ((item ≡ i) × In k (take j keys))))
    → ((k : Key) (i : ℕ) → Has new k i ↔ (Has mid k i ⊎ ((k ≡ key) × (i ≡ item))))
    → (k : Key) (i : ℕ) → Has new k i ↔ (Has old k i ⊎ ((item ≡ i) × In k (take (j + 1) keys)))
row_more old mid new keys j key item get was put k i = (
  λ h. elim ((put k i).0 h) [
    | inl m ↦ elim ((was k i).0 m) [ inl o ↦ inl o | inr r ↦ inr (r.0, more_in keys j key get k r.1) ]
    | inr e ↦ inr (sym e.1, subst (λ (z : Key). In z (take (j + 1) keys)) (sym e.0) (last_in keys j key get))
  ],
  λ h. elim h [
    | inl o ↦ (put k i).1 (inl ((was k i).1 (inl o)))
    | inr r ↦ elim (in_more keys j key get k r.1) [
      | inl a ↦ (put k i).1 (inl ((was k i).1 (inr (r.0, a))))
      | inr e ↦ (put k i).1 (inr (e, sym r.0))
    ]
  ],
)

-- or none, and it stays so
pub row_less : (old mid new : KeyItems) (w : Row) (j : ℕ)
    → ((k : Key) (i : ℕ) → Has mid k i ↔ (Has old k i ⊎ ((w.item ≡ i) × In k (take j w.keys))))
    → ((k : Key) (i : ℕ) → Has new k i ↔ Has mid k i) → GrowsBy (HasPair w) old new
row_less old mid new w j was put = record {
  keeps = λ k i o. (put k i).1 ((was k i).1 (inl o));
  just = λ k i h. elim ((was k i).0 ((put k i).0 h)) [
    | inl o ↦ inl o
    | inr r ↦ inr (r.0, in_take j k w.keys r.1)
  ];
}

-- one row more
pub rows_more : (old mid new : KeyItems) (rows : List Row) (n : ℕ) (w : Row) → slice_get rows n ≡ Some w
    → ((k : Key) (i : ℕ) → Has mid k i ↔ (Has old k i ⊎ InRows (take n rows) k i))
    → ((k : Key) (i : ℕ) → Has new k i ↔ (Has mid k i ⊎ HasPair w k i))
    → (k : Key) (i : ℕ) → Has new k i ↔ (Has old k i ⊎ InRows (take (n + 1) rows) k i)
rows_more old mid new rows n w get was put k i = (
  λ h. elim ((put k i).0 h) [
    | inl m ↦ elim ((was k i).0 m) [ inl o ↦ inl o | inr r ↦ inr (r.0, more_in rows n w get r.0 r.1, r.2, r.3) ]
    | inr e ↦ inr (w, last_in rows n w get, e.0, e.1)
  ],
  λ h. elim h [
    | inl o ↦ (put k i).1 (inl ((was k i).1 (inl o)))
    | inr r ↦ elim (in_more rows n w get r.0 r.1) [
      | inl a ↦ (put k i).1 (inl ((was k i).1 (inr (r.0, a, r.2, r.3))))
      | inr e ↦ (put k i).1 (inr (subst (λ (v : Row). HasPair v k i) e (r.2, r.3)))
    ]
  ],
)

pub rows_less : (old mid new : KeyItems) (rows : List Row) (n : ℕ) (w : Row) → slice_get rows n ≡ Some w
    → ((k : Key) (i : ℕ) → Has mid k i ↔ (Has old k i ⊎ InRows (take n rows) k i))
    → GrowsBy (HasPair w) mid new → GrowsBy (InRows rows) old new
rows_less old mid new rows n w get was put = record {
  keeps = λ k i o. put.keeps k i ((was k i).1 (inl o));
  just = λ k i h. elim (put.just k i h) [
    | inl m ↦ elim ((was k i).0 m) [ inl o ↦ inl o | inr r ↦ inr (r.0, in_take n r.0 rows r.1, r.2, r.3) ]
    | inr e ↦ inr (w, in_take (n + 1) w rows (last_in rows n w get), e.0, e.1)
  ];
}
