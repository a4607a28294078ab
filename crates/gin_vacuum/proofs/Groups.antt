-- The items of one heap page, which are together in a list of rising items.
use Rattle.std.proofs.Common.{◌≡◌, ◌≢◌, ◌⊎◌, ◌+◌, ◌-◌, ◌<◌, ◌≤◌, ℕ, zero, suc, List, [], ◌∷◌, ◌++◌, length, take, drop}
use Rattle.std.proofs.Common.{get_or, refl, sym, ap, subst, ◌∙◌, inl, inr, arith}
use Rattle.std.proofs.lemmas.List.{take_more}
use Rattle.page_types.specs.Items.{AreItems, AreItemsFrom}
use Rattle.core_state.specs.Log.{In}
use Rattle.core_state.specs.Documents.{page_of}
use Rattle.core_state.proofs.PageLists.{same_or_not, in_either}

pub in_more : (i x : ℕ) (xs : List ℕ) → In i (xs ++ x ∷ []) → In i xs ⊎ (i ≡ x)
in_more i x xs at = elim (in_either i xs (x ∷ []) at) [
  | inl on ↦ inl on
  | inr (inl e) ↦ inr e
  | inr (inr none) ↦ absurd none
]

-- what is at a place of a list is in it
pub get_in : (xs : List ℕ) (k : ℕ) → k < length xs → In (get_or xs k 0) xs
get_in [] k lt = absurd (omega arith)
get_in (x ∷ xs) zero lt = inl refl
get_in (x ∷ xs) (suc k) lt = inr (get_in xs k (omega arith))

weaker_from : (low last : ℕ) (xs : List ℕ) → low ≤ last → AreItemsFrom last xs → AreItemsFrom low xs
weaker_from low last [] le are = tt
weaker_from low last (x ∷ xs) le are = (omega (arith, le, are.0), are.1, are.2)

drop_rises : (last n : ℕ) (xs : List ℕ) → AreItemsFrom last xs → AreItemsFrom last (drop n xs)
drop_rises last zero xs are = are
drop_rises last (suc n) [] are = tt
drop_rises last (suc n) (x ∷ xs) are =
    weaker_from last x (drop n xs) (omega (arith, are.0)) (drop_rises x n xs are.2)

above_all : (last : ℕ) (xs : List ℕ) → AreItemsFrom last xs → (i : ℕ) → In i xs → last < i
above_all last [] are i at = absurd at
above_all last (x ∷ xs) are i (inl e) = omega (arith, are.0, e)
above_all last (x ∷ xs) are i (inr at) = omega (arith, are.0, above_all x xs are.2 i at)

-- those from a place on are no lower than what is there
from_place : (last : ℕ) (xs : List ℕ) (k : ℕ) → AreItemsFrom last xs → (i : ℕ) → In i (drop k xs)
    → get_or xs k 0 ≤ i
from_place last [] zero are i at = absurd at
from_place last [] (suc k) are i at = absurd at
from_place last (x ∷ xs) zero are i (inl e) = omega (arith, e)
from_place last (x ∷ xs) zero are i (inr at) = omega (arith, above_all x xs are.2 i at)
from_place last (x ∷ xs) (suc k) are i at = from_place x xs k are.2 i at

pub get_of_drop : (xs : List ℕ) (k j : ℕ) → k ≤ j → j < length xs → In (get_or xs j 0) (drop k xs)
get_of_drop [] k j le lt = absurd (omega arith)
get_of_drop (x ∷ xs) zero j le lt = get_in (x ∷ xs) j lt
get_of_drop (x ∷ xs) (suc k) zero le lt = absurd (omega arith)
get_of_drop (x ∷ xs) (suc k) (suc j) le lt = get_of_drop xs k j (omega arith) (omega arith)

-- items after one that is on another page than an earlier one are on no page of that one
pub past_group : (items : List ℕ) (from k page : ℕ) → AreItems items → from ≤ k → k < length items
    → page ≡ page_of (get_or items from 0) → page_of (get_or items k 0) ≢ page → (i : ℕ) → In i (drop k items)
    → page_of i ≢ page
past_group items from k page are le lt first other i at same =
    let low : get_or items from 0 ≤ get_or items k 0 =
    from_place 0 items from are (get_or items k 0) (get_of_drop items from k le lt) in
    let high : get_or items k 0 ≤ i = from_place 0 items k are i at in
    other (omega (arith, low, high, first, same))

-- so many items from a place on, and one more
pub group_more : (xs : List ℕ) (from k : ℕ) → from ≤ k → k < length xs
    → take (k + 1 - from) (drop from xs) ≡ take (k - from) (drop from xs) ++ get_or xs k 0 ∷ []
group_more [] from k le lt = absurd (omega arith)
group_more (x ∷ xs) zero k le lt = group_front (x ∷ xs) k lt
  where
    group_front : (xs : List ℕ) (k : ℕ) → k < length xs → take (k + 1 - 0) xs ≡ take (k - 0) xs ++ get_or xs k 0 ∷ []
    group_front xs k lt =
        let a : k + 1 - 0 ≡ k + 1 = omega arith in
        let b : k - 0 ≡ k = omega arith in
        ap (λ (n : ℕ). take n xs) a ∙ take_more xs k 0 lt
        ∙ ap (λ (n : ℕ). take n xs ++ get_or xs k 0 ∷ []) (sym b)
group_more (x ∷ xs) (suc from) zero le lt = absurd (omega arith)
group_more (x ∷ xs) (suc from) (suc k) le lt =
    let a : suc k + 1 - suc from ≡ k + 1 - from = omega arith in
    let b : suc k - suc from ≡ k - from = omega arith in
    ap (λ (n : ℕ). take n (drop from xs)) a ∙ group_more xs from k (omega arith) (omega arith)
    ∙ ap (λ (n : ℕ). take n (drop from xs) ++ get_or xs k 0 ∷ []) (sym b)

pub group_grows : (xs : List ℕ) (from k page : ℕ) → from ≤ k → k < length xs → page_of (get_or xs k 0) ≡ page
    → ((i : ℕ) → In i (take (k - from) (drop from xs)) → page_of i ≡ page)
    → (i : ℕ) → In i (take (k + 1 - from) (drop from xs)) → page_of i ≡ page
group_grows xs from k page le lt here all i at =
    elim (in_more i (get_or xs k 0) (take (k - from) (drop from xs)) (subst (In i) (group_more xs from k le lt) at)) [
      | inl old ↦ all i old
      | inr e ↦ ap page_of e ∙ here
    ]

-- what is after a place is also after an earlier one
pub drop_less : (i n m : ℕ) (xs : List ℕ) → n ≤ m → In i (drop m xs) → In i (drop n xs)
drop_less i zero m xs le at = in_drop i m xs at
  where
    in_drop : (i m : ℕ) (xs : List ℕ) → In i (drop m xs) → In i xs
    in_drop i zero xs at = at
    in_drop i (suc m) [] at = at
    in_drop i (suc m) (x ∷ xs) at = inr (in_drop i m xs at)
drop_less i (suc n) zero xs le at = absurd (omega arith)
drop_less i (suc n) (suc m) [] le at = at
drop_less i (suc n) (suc m) (x ∷ xs) le at = drop_less i n m xs (omega arith) at

-- what is before a place is before an earlier one, or between them
pub take_parts : (i n m : ℕ) (xs : List ℕ) → n ≤ m → In i (take m xs)
    → In i (take n xs) ⊎ In i (take (m - n) (drop n xs))
take_parts i zero m xs le at =
    let e : m - 0 ≡ m = omega arith in inr (subst (λ (k : ℕ). In i (take k xs)) (sym e) at)
take_parts i (suc n) zero xs le at = absurd (omega arith)
take_parts i (suc n) (suc m) [] le at = absurd at
take_parts i (suc n) (suc m) (x ∷ xs) le (inl e) = inl (inl e)
take_parts i (suc n) (suc m) (x ∷ xs) le (inr at) =
    let e : suc m - suc n ≡ m - n = omega arith in elim (take_parts i n m xs (omega arith) at) [
      | inl old ↦ inl (inr old)
      | inr new ↦ inr (subst (λ (k : ℕ). In i (take k (drop n xs))) (sym e) new)
    ]

-- an item on another page is not the first
pub not_first : (items : List ℕ) (from k page : ℕ) → from ≤ k → page ≡ page_of (get_or items from 0)
    → page_of (get_or items k 0) ≢ page → from < k
not_first items from k page le first other = elim (same_or_not from k) [
  | inl same ↦ absurd (other (ap (λ (j : ℕ). page_of (get_or items j 0)) same ∙ sym first))
  | inr off ↦ omega (arith, le, off)
]

-- nothing is after all
pub none_after : (i : ℕ) (xs : List ℕ) → In i (drop (length xs) xs) → ⊥
none_after i [] at = at
none_after i (x ∷ xs) at = none_after i xs at

-- the first of some items from a place on
pub first_taken : (xs : List ℕ) (from n : ℕ) → 0 < n → from < length xs → In (get_or xs from 0) (take n (drop from xs))
first_taken [] from n some lt = absurd (omega arith)
first_taken (x ∷ xs) zero zero some lt = absurd (omega arith)
first_taken (x ∷ xs) zero (suc n) some lt = inl refl
first_taken (x ∷ xs) (suc from) n some lt = first_taken xs from n some (omega arith)
