-- What a walk over the pending list does with lists of items.
use Rattle.std.proofs.Common.{◌≡◌, ◌⊎◌, ◌<◌, ◌≤◌, ◌+◌, ◌↔◌, ℕ, zero, suc, List, [], ◌∷◌, ◌++◌, length, take, get_or}
use Rattle.std.proofs.Common.{refl, sym, ap}
use Rattle.std.proofs.Common.{subst, ◌∙◌, inl, inr, arith, Result, Ok, Err}
use Rattle.std.specs.Prelude.{Bool, true, false, Some, slice_get}
use Rattle.std.specs.List.{Contains}
use Rattle.std.specs.List.Sorted.{IsBinarySearchResult, IsPermutation, IsSorted}
use Rattle.std.specs.Ordering.{nat_cmp}
use Rattle.std.specs.Result.{is_err}
use Rattle.std.proofs.Math.Dec.{eqb}
use Rattle.std.proofs.lemmas.Bool.{cases_lt, eqb-true, eq-eqb}
use Rattle.std.proofs.lemmas.List.{take_all}
use Rattle.std.proofs.lemmas.List.Sorted.{searched, IsNonDecreasingBy-from_sort, Contains-permutation}
use Rattle.std.proofs.lemmas.List.Sorted.{IsPermutation-sym}
use Rattle.page_types.specs.Items.{AreItems, AreItemsFrom}
use Rattle.page_types.specs.Numbers.{item_limit}
use Rattle.page_types.specs.declared.page.Row.{Row}
use Rattle.page_types.proofs.Cutting.{take_get}
use Rattle.core_state.specs.Log.{In}
use Rattle.core_state.proofs.NamesInOrder.{in_at}
use Rattle.core_state.proofs.PageLists.{in_front, in_back, in_either}
use Rattle.gin_vacuum.specs.Inner.Unlinked.{HaveMet, AreOthers}
use Rattle.gin_vacuum.proofs.DeadSlots.{items_then}

pub at_in : {A : Type 0} (xs : List A) (y : A) (j : ℕ) → j < length xs → get_or xs j y ≡ y → In y xs
at_in [] y j l e = absurd (omega (arith, l))
at_in (x ∷ xs) y zero l e = inl (sym e)
at_in (x ∷ xs) y (suc j) l e = inr (at_in xs y j (omega (arith, l)) e)

pub contains_in : (xs : List ℕ) (x : ℕ) → Contains xs x → In x xs
contains_in xs x c = at_in xs x c.0 c.1 c.2

pub in_contains : (xs : List ℕ) (x : ℕ) → In x xs → Contains xs x
in_contains xs x i = in_at xs x i

module _ {A : Type 0} (xs : List A) (k : ℕ) (x : A) (get : slice_get xs k ≡ Some x) where
  pub in_more : (y : A) → In y (take (k + 1) xs) → In y (take k xs) ⊎ (y ≡ x)
  in_more y i = elim (in_either y (take k xs) (x ∷ []) (subst (In y) (take_get xs k x get) i)) [
    | inl j ↦ inl j
    | inr (inl e) ↦ inr e
    | inr (inr none) ↦ absurd none
  ]

  pub more_in : (y : A) → In y (take k xs) → In y (take (k + 1) xs)
  more_in y i = subst (In y) (sym (take_get xs k x get)) (in_front y (take k xs) (x ∷ []) i)

  pub last_in : In x (take (k + 1) xs)
  last_in = subst (In x) (sym (take_get xs k x get)) (in_back x (take k xs) (x ∷ []) (inl refl))

-- ---- the items of rows ----

module _ (rows : List Row) (k : ℕ) (w : Row) (get : slice_get rows k ≡ Some w) (dead old met : List ℕ)
    (had : HaveMet (take k rows) dead old met) where
  -- one row more, of a dead item
  pub met_next : In w.item dead → HaveMet (take (k + 1) rows) dead old (met ++ w.item ∷ [])
  met_next is i = (
    λ on. elim (in_either i met (w.item ∷ []) on) [
      | inl m ↦ elim ((had i).0 m) [
        | inl o ↦ inl o
        | inr r ↦ inr (r.0, (r.1.0, more_in rows k w get r.1.0 r.1.1, r.1.2))
      ]
      | inr (inl e) ↦
          inr (subst (λ (n : ℕ). In n dead) (sym e) is, (w, last_in rows k w get, sym e))
      | inr (inr none) ↦ absurd none
    ],
    λ h. elim h [
      | inl o ↦ in_front i met (w.item ∷ []) ((had i).1 (inl o))
      | inr r ↦ elim (in_more rows k w get r.1.0 r.1.1) [
        | inl j ↦ in_front i met (w.item ∷ []) ((had i).1 (inr (r.0, (r.1.0, j, r.1.2))))
        | inr e ↦ in_back i met (w.item ∷ []) (inl (sym r.1.2 ∙ ap (λ (v : Row). v.item) e))
      ]
    ],
  )

  -- or of none
  pub met_not : (In w.item dead → ⊥) → HaveMet (take (k + 1) rows) dead old met
  met_not off i = (
    λ on. elim ((had i).0 on) [
      | inl o ↦ inl o
      | inr r ↦ inr (r.0, (r.1.0, more_in rows k w get r.1.0 r.1.1, r.1.2))
    ],
    λ h. elim h [
      | inl o ↦ (had i).1 (inl o)
      | inr r ↦ elim (in_more rows k w get r.1.0 r.1.1) [
        | inl j ↦ (had i).1 (inr (r.0, (r.1.0, j, r.1.2)))
        | inr e ↦ absurd (off
            (subst (λ (n : ℕ). In n dead) (sym r.1.2 ∙ ap (λ (v : Row). v.item) e) r.0))
      ]
    ],
  )

-- ---- the others ----

-- what a sort leaves
pub same_items : (xs ys : List ℕ) → IsPermutation xs ys → (i : ℕ) → In i ys ↔ In i xs
same_items xs ys p i = (
  λ m. contains_in xs i (Contains-permutation ys xs i (IsPermutation-sym xs ys p) (in_contains ys i m)),
  λ m. contains_in ys i (Contains-permutation xs ys i p (in_contains xs i m)),
)

same_at : (xs : List ℕ) (k c d : ℕ) → k < length xs → get_or xs k c ≡ get_or xs k d
same_at [] k c d lt = absurd (omega (arith, lt))
same_at (x ∷ xs) zero c d lt = refl
same_at (x ∷ xs) (suc k) c d lt = same_at xs k c d (omega (arith, lt))

-- what a binary search says
pub search_none : (xs : List ℕ) (x : ℕ) (r : Result ℕ ℕ) → IsSorted nat_cmp xs
    → IsBinarySearchResult (λ y. nat_cmp y x) xs r → (b : Bool) → b ≡ is_err r
    → (b ≡ true → In x xs → ⊥) × (b ≡ false → In x xs)
search_none xs x (Ok i) sorted found b is =
    let at = searched xs x (Ok i) found
    (λ i j le lt. IsNonDecreasingBy-from_sort (λ (n : ℕ). n) xs sorted i j 0 le lt) in
    let on : In x xs = at_in xs x i at.0 (same_at xs i x 0 at.0 ∙ at.1) in
    (λ e. absurd (let two : true ≡ false = sym e ∙ is in let z : ⊥ = cc in z), λ e. on)
search_none xs x (Err i) sorted found b is =
    let at = searched xs x (Err i) found
    (λ i j le lt. IsNonDecreasingBy-from_sort (λ (n : ℕ). n) xs sorted i j 0 le lt) in (
      λ e on. elsewhere at.1 at.2 (in_contains xs x on),
      λ e. absurd (let two : true ≡ false = sym is ∙ e in let z : ⊥ = cc in z),
    )
  where
    elsewhere : ((k : ℕ) → k < i → get_or xs k 0 < x) → ((k : ℕ) → i ≤ k → k < length xs → x < get_or xs k 0)
        → Contains xs x → ⊥
    elsewhere low high (k, lt, e) =
        let here : get_or xs k 0 ≡ x = same_at xs k 0 x lt ∙ e in
        elim (cases_lt k i) [
          | inl below ↦ absurd (omega (arith, low k below, here))
          | inr above ↦ absurd (omega (arith, high k above lt, here))
        ]

-- an item of a rising list is above those before it
pub item_above : (last : ℕ) (xs : List ℕ) (k y : ℕ) → AreItemsFrom last xs → slice_get xs k ≡ Some y
    → (last < y) × (y < item_limit) × ((i : ℕ) → In i (take k xs) → i < y)
item_above last [] k y are e = absurd cc
item_above last (x ∷ xs) zero y are e =
    let same : x ≡ y = cc in (
      omega (arith, are.0, same),
      omega (arith, are.1, same),
      λ i on. absurd on,
    )
item_above last (x ∷ xs) (suc k) y are e =
    let r = item_above x xs k y are.2 e in (
      omega (arith, are.0, r.0),
      r.1,
      λ i on. elim on [ inl same ↦ omega (arith, same, r.0) | inr j ↦ r.2 i j ],
    )

-- these are the first so many dead items, but those that were met
pub record AreOthersTo (dead met : List ℕ) (k : ℕ) (items : List ℕ) : Type 0 where
  pub each : (i : ℕ) → In i items ↔ (In i (take k dead) × (In i met → ⊥))
  pub rise : AreItems items

module _ (dead met items : List ℕ) (k y : ℕ) (are : AreItems dead) (get : slice_get dead k ≡ Some y)
    (had : AreOthersTo dead met k items) where
  pub others_next : (In y met → ⊥) → AreOthersTo dead met (k + 1) (items ++ y ∷ [])
  others_next off =
      let a = item_above 0 dead k y are get in
      record {
        each = λ i. (
          λ on. elim (in_either i items (y ∷ []) on) [
            | inl j ↦ let o = (had.each i).0 j in (more_in dead k y get i o.0, o.1)
            | inr (inl e) ↦ (
              subst (λ (n : ℕ). In n (take (k + 1) dead)) (sym e) (last_in dead k y get),
              λ m. off (subst (λ (n : ℕ). In n met) e m),
            )
            | inr (inr none) ↦ absurd none
          ],
          λ h. elim (in_more dead k y get i h.0) [
            | inl j ↦ in_front i items (y ∷ []) ((had.each i).1 (j, h.1))
            | inr e ↦ in_back i items (y ∷ []) (inl e)
          ],
        );
        rise = items_then 0 items y had.rise a.0 a.1 (λ i on. a.2 i ((had.each i).0 on).0);
      }

  pub others_not : In y met → AreOthersTo dead met (k + 1) items
  others_not on = record {
    each = λ i. (
      λ j. let o = (had.each i).0 j in (more_in dead k y get i o.0, o.1),
      λ h. elim (in_more dead k y get i h.0) [
        | inl j ↦ (had.each i).1 (j, h.1)
        | inr e ↦ absurd (h.1 (subst (λ (n : ℕ). In n met) (sym e) on))
      ],
    );
    rise = had.rise;
  }

get_of : (xs : List ℕ) (k : ℕ) → k < length xs → slice_get xs k ≡ Some (get_or xs k 0)
get_of [] k lt = absurd (omega (arith, lt))
get_of (x ∷ xs) zero lt = refl
get_of (x ∷ xs) (suc k) lt = get_of xs k (omega (arith, lt))

module _ (dead xs met items : List ℕ) (k : ℕ) (same : xs ≡ dead) (are : AreItems xs) (lt : k < length xs)
    (had : AreOthersTo dead met k items) where
  had_of : AreOthersTo xs met k items
  had_of = subst (λ (d : List ℕ). AreOthersTo d met k items) (sym same) had

  -- one item more, which was met or not
  pub others_add : (In (get_or xs k 0) met → ⊥) → AreOthersTo dead met (k + 1) (items ++ get_or xs k 0 ∷ [])
  others_add off =
      subst (λ (d : List ℕ). AreOthersTo d met (k + 1) (items ++ get_or xs k 0 ∷ [])) same
      (others_next xs met items k (get_or xs k 0) are (get_of xs k lt) had_of off)

  pub others_skip : In (get_or xs k 0) met → AreOthersTo dead met (k + 1) items
  others_skip on =
      subst (λ (d : List ℕ). AreOthersTo d met (k + 1) items) same
      (others_not xs met items k (get_or xs k 0) are (get_of xs k lt) had_of on)

-- all of them
pub others_end : (dead old met items : List ℕ) (k : ℕ) → length dead ≤ k → IsPermutation old met
    → AreOthersTo dead met k items → AreOthers dead old items
others_end dead old met items k far moved had i = (
  λ on.
      let o = (had.each i).0 on in
      (subst (In i) (take_all k dead far) o.0, λ m. o.1 ((same_items old met moved i).1 m)),
  λ h.
      (had.each i).1
      (subst (In i) (sym (take_all k dead far)) h.0, λ m. h.1 ((same_items old met moved i).0 m)),
)

no_length : (xs : List ℕ) → length xs ≡ 0 → xs ≡ []
no_length [] none = refl
no_length (x ∷ xs) none = absurd (omega (arith, none))

-- what a test for no items says
pub empty_is : (xs : List ℕ) (b : Bool) → b ≡ eqb (length xs) 0 → b ≡ true → xs ≡ []
empty_is xs b is on = no_length xs (eqb-true (length xs) 0 (sym is ∙ on))

pub not_empty : (xs : List ℕ) (b : Bool) → b ≡ eqb (length xs) 0 → b ≡ false → xs ≡ [] → ⊥
not_empty xs b is off none =
    let on : b ≡ true = is ∙ eq-eqb (length xs) 0 (ap (λ (l : List ℕ). length l) none) in
    let two : true ≡ false = sym on ∙ off in
    let z : ⊥ = cc in z
