-- What is in a list.
use Rattle.std.proofs.Common.{◌≡◌, ◌⊎◌, ⊎_elim, ℕ, zero, suc, ◌<◌, ◌≤◌, List, [], ◌∷◌, take, drop, sym, subst, inl}
use Rattle.std.proofs.Common.{inr, arith}
use Rattle.std.specs.List.{Contains}
use Rattle.std.proofs.lemmas.List.{take-append-drop, take-take}
use Rattle.std.proofs.lemmas.List.Elements.{Contains-append_left}
use Rattle.page_types.specs.Items.{AreItems, AreItemsFrom}
use Rattle.page_types.specs.Numbers.{item_limit}
use Rattle.core_state.specs.Log.{In}
use Rattle.core_state.proofs.RunningOnes.{same_or_other}

pub in_list : (i : ℕ) (is : List ℕ) → Contains is i → In i is
in_list i [] c = absurd (omega (arith, c.1))
in_list i (j ∷ is) (zero, lt, e) = inl (sym e)
in_list i (j ∷ is) (suc k, lt, e) = inr (in_list i is (k, omega arith, e))

pub contained : (i : ℕ) (is : List ℕ) → In i is → Contains is i
contained i [] on = absurd on
contained i (j ∷ is) (inl e) = (zero, omega arith, sym e)
contained i (j ∷ is) (inr on) = let c = contained i is on in (suc c.0, omega (arith, c.1), c.2)

pub in_or_not : (i : ℕ) (xs : List ℕ) → Contains xs i ⊎ (Contains xs i → ⊥)
in_or_not i [] = inr (λ has. in_list i [] has)
in_or_not i (x ∷ xs) = elim (same_or_other i x) [
  | inl e ↦ inl (contained i (x ∷ xs) (inl e))
  | inr d ↦ ⊎_elim (λ (has : Contains xs i). inl (contained i (x ∷ xs) (inr (in_list i xs has))))
      (λ (lacks : Contains xs i → ⊥). inr (λ has.
      ⊎_elim (λ (e : i ≡ x). d e) (λ (on : In i xs). lacks (contained i xs on)) (in_list i (x ∷ xs) has)))
      (in_or_not i xs)
]

-- where no item is missing from a list, each is in it
pub none_lacks : (items list : List ℕ) → ((i : ℕ) × Contains items i × (Contains list i → ⊥) → ⊥) → (i : ℕ)
    → Contains items i → Contains list i
none_lacks items list none i on =
    ⊎_elim (λ has. has) (λ (lacks : Contains list i → ⊥). absurd (none (i, on, lacks))) (in_or_not i list)

-- what is among the first is among all
pub of_first : (n : ℕ) (items : List ℕ) (i : ℕ) → Contains (take n items) i → Contains items i
of_first n items i c =
    subst (λ (l : List ℕ). Contains l i) (take-append-drop n items)
    (Contains-append_left (take n items) (drop n items) i c)

-- and among more of the first
pub of_more : (m n : ℕ) (items : List ℕ) (i : ℕ) → m ≤ n → Contains (take m items) i → Contains (take n items) i
of_more m n items i le c =
    of_first m (take n items) i (subst (λ (l : List ℕ). Contains l i) (sym (take-take m n items le)) c)

-- an item among the first ones is in the list
pub among : (i n : ℕ) (is : List ℕ) → In i (take n is) → In i is
among i zero is on = absurd on
among i (suc n) [] on = absurd on
among i (suc n) (j ∷ is) (inl e) = inl e
among i (suc n) (j ∷ is) (inr on) = inr (among i n is on)

items_above : (low last : ℕ) (is : List ℕ) → low ≤ last → AreItemsFrom last is → AreItemsFrom low is
items_above low last [] le are = tt
items_above low last (i ∷ is) le are = (omega (arith, le, are.0), are.1, are.2)

-- so are the items from one on
pub items_on : (n : ℕ) (is : List ℕ) → AreItems is → AreItems (drop n is)
items_on zero is are = are
items_on (suc n) [] are = tt
items_on (suc n) (i ∷ is) are = items_on n is (items_above 0 i is (omega arith) are.2)

each_above : (last : ℕ) (is : List ℕ) → AreItemsFrom last is → (i : ℕ) → In i is → (last ≤ i) × (i < item_limit)
each_above last [] are i on = absurd on
each_above last (j ∷ is) are i (inl e) = (omega (arith, are.0, e), omega (arith, are.1, e))
each_above last (j ∷ is) are i (inr on) =
    let later = each_above j is are.2 i on in (omega (arith, are.0, later.0), later.1)

-- each is no less than the first
pub from_first : (item : ℕ) (rest : List ℕ) → AreItems (item ∷ rest) → (i : ℕ) → In i (item ∷ rest)
    → (item ≤ i) × (i < item_limit)
from_first item rest are i (inl e) = (omega (arith, e), omega (arith, are.1, e))
from_first item rest are i (inr on) = each_above item rest are.2 i on
