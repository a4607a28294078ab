-- The items up to a high item are the first ones.
use Rattle.std.proofs.Common.{◌≡◌, ◌≢◌, ℕ, zero, suc, ◌+◌, ◌<◌, ◌≤◌, leb, List, [], ◌∷◌, length, get_or, take, drop}
use Rattle.std.proofs.Common.{sym, ◌∙◌, inl, inr, arith}
use Rattle.std.specs.Prelude.{true, false}
use Rattle.std.specs.List.Sorted.{IsNonDecreasingBy, IsPartitionPoint, IsPartitionedBy}
use Rattle.std.proofs.lemmas.Bool.{cases_lt, leb-true, leb-false}
use Rattle.std.proofs.lemmas.List.{drop_all, drop_more}
use Rattle.std.proofs.lemmas.List.Sorted.{IsPartitionedBy-leb}
use Rattle.page_types.specs.Items.{AreItemsFrom, AreItems}
use Rattle.core_state.specs.Log.{In}
use Rattle.gin_place.specs.Inner.ReadingItems.{IsUpTo}
use Rattle.gin_place.proofs.Lists.{in_list}

rising_items : (last : ℕ) (items : List ℕ) → AreItemsFrom last items → IsNonDecreasingBy (λ (i : ℕ). i) items
rising_items last [] h i j d le lt = absurd (omega (arith, lt))
rising_items last (x ∷ xs) h zero zero d le lt = omega arith
rising_items last (x ∷ xs) h (suc i) zero d le lt = absurd (omega (arith, le))
rising_items last (x ∷ xs) h zero (suc j) d le lt = later x xs j h.2 (omega (arith, lt))
  where
    later : (low : ℕ) (ys : List ℕ) (j : ℕ) → AreItemsFrom low ys → j < length ys → low ≤ get_or ys j d
    later low [] j h lt = absurd (omega (arith, lt))
    later low (y ∷ ys) zero h lt = omega (arith, h.0)
    later low (y ∷ ys) (suc j) h lt = omega (arith, h.0, later y ys j h.2 (omega (arith, lt)))
rising_items last (x ∷ xs) h (suc i) (suc j) d le lt =
    rising_items x xs h.2 i j d (omega (arith, le)) (omega (arith, lt))

pub items_parted : (items : List ℕ) (high : ℕ) → AreItems items → IsPartitionedBy (λ (i : ℕ). leb i high) items
items_parted items high rise = IsPartitionedBy-leb (λ (i : ℕ). i) items high (rising_items 0 items rise)

all_up_to : (high n : ℕ) (items : List ℕ) → ((k d : ℕ) → k < n → get_or items k d ≤ high) → (i : ℕ)
    → In i (take n items) → i ≤ high
all_up_to high zero items each i on = absurd on
all_up_to high (suc n) [] each i on = absurd on
all_up_to high (suc n) (x ∷ xs) each i (inl e) = omega (arith, e, each 0 0 (omega arith))
all_up_to high (suc n) (x ∷ xs) each i (inr on) =
    all_up_to high n xs (λ k d lt. each (suc k) d (omega (arith, lt))) i on

firsts : (a b : ℕ) (xs ys : List ℕ) → a ∷ xs ≡ b ∷ ys → a ≡ b
firsts a b xs ys e = cc

no_items : (i : ℕ) (rest : List ℕ) → [] ≡ i ∷ rest → ⊥
no_items i rest e = cc

-- up to an item
pub some_up_to : (items : List ℕ) (high n : ℕ) → n ≤ length items → high ≢ 0
    → IsPartitionPoint (λ (i : ℕ). leb i high ≡ true) (λ (i : ℕ). leb i high ≡ false) items n → IsUpTo items high n
some_up_to items high n among some parts = record {
  among = among;
  within = λ i c. inr (all_up_to high n items
      (λ k d lt. leb-true (get_or items k d) high (parts.0 k d (omega arith) lt)) i (in_list i (take n items) c));
  above = λ i rest e up. elim (cases_lt n (length items)) [
    | inl lt ↦
        let here : get_or items n 0 ≡ i = firsts (get_or items n 0) i (drop (n + 1) items) rest
        (sym (drop_more items n 0 lt) ∙ e) in
        let more = leb-false (get_or items n 0) high (parts.1 n 0 (omega arith) lt) in
        elim up [ inl none ↦ some none | inr le ↦ omega (arith, le, more, here) ]
    | inr le ↦ no_items i rest (sym (drop_all n items le) ∙ e)
  ];
}

-- where there is no high item
pub all_items : (items : List ℕ) (high n : ℕ) → high ≡ 0 → n ≡ length items → IsUpTo items high n
all_items items high n none all = record {
  among = omega (arith, all);
  within = λ i c. inl none;
  above = λ i rest e up. no_items i rest (sym (drop_all n items (omega (arith, all))) ∙ e);
}
