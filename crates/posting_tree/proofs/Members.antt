-- Which items are in a list.
use Rattle.std.proofs.Common.{◌≡◌, ◌⊎◌, ℕ, zero, suc, ◌<◌, ◌≤◌, Bool, true, false, List, [], ◌∷◌, refl, sym, subst, ◌∙◌}
use Rattle.std.proofs.Common.{inl, inr, arith}
use Rattle.std.specs.Prelude.{◌↔◌}
use Rattle.std.specs.List.{AllByRecursion, Contains}
use Rattle.std.proofs.lemmas.Bool.{cases_lt, false≢true}
use Rattle.page_types.specs.Items.{items_of, AreItemsFrom}
use Rattle.page_types.specs.Keys.{Rising}
use Rattle.core_state.specs.Log.{In}
use Rattle.core_state.specs.TreeRules.{ItemsAdded}
use Rattle.posting_code.specs.Uniting.{IsUnited}

pub in_list : (i : ℕ) (is : List ℕ) → Contains is i → In i is
in_list i [] c = absurd (omega (arith, c.1))
in_list i (j ∷ is) (zero, lt, e) = inl (sym e)
in_list i (j ∷ is) (suc k, lt, e) = inr (in_list i is (k, omega arith, e))

pub contained : (i : ℕ) (is : List ℕ) → In i is → Contains is i
contained i [] on = absurd on
contained i (j ∷ is) (inl e) = (zero, omega arith, sym e)
contained i (j ∷ is) (inr on) = let c = contained i is on in (suc c.0, omega (arith, c.1), c.2)

same_or_not : (i j : ℕ) → (i ≡ j) ⊎ (i ≡ j → ⊥)
same_or_not i j =
    elim (cases_lt i j) [
      | inl lt ↦ inr (λ e. absurd (omega (arith, lt, e)))
      | inr le ↦ elim (cases_lt j i) [
        | inl lt ↦ inr (λ e. absurd (omega (arith, lt, e)))
        | inr ge ↦ inl (omega (arith, le, ge))
      ]
    ]

pub in_or_not : (i : ℕ) (is : List ℕ) → In i is ⊎ (In i is → ⊥)
in_or_not i [] = inr (λ on. on)
in_or_not i (j ∷ is) =
    elim (same_or_not i j) [
      | inl e ↦ inl (inl e)
      | inr apart ↦ elim (in_or_not i is) [
        | inl on ↦ inl (inr on)
        | inr none ↦ inr (λ on. elim on [ inl e ↦ apart e | inr later ↦ none later ])
      ]
    ]

only_one : (i j : ℕ) → Contains (i ∷ []) j → j ≡ i
only_one i j (zero, lt, e) = sym e
only_one i j (suc k, lt, e) = absurd (omega (arith, lt))

-- what a test that a list lacks one item says
abbrev pub LacksOne : Bool → List ℕ → ℕ → Type 0
LacksOne lacks is i = (lacks ≡ true) ↔ ((j : ℕ) × Contains (i ∷ []) j × (Contains is j → ⊥))

pub not_there : (lacks : Bool) (is : List ℕ) (i : ℕ) → LacksOne lacks is i → lacks ≡ true → Contains is i → ⊥
not_there lacks is i says e c =
    let none = says.0 e in none.2 (subst (Contains is) (sym (only_one i none.0 none.1)) c)

pub there : (lacks : Bool) (is : List ℕ) (i : ℕ) → LacksOne lacks is i → lacks ≡ false → Contains is i
there lacks is i says e =
    elim (in_or_not i is) [
      | inl on ↦ contained i is on
      | inr none ↦ absurd (false≢true (sym e
          ∙ says.1 (i, contained i (i ∷ []) (inl refl), λ c. none (in_list i is c))))
    ]

-- ---- items added

all_later : (low last : ℕ) (is : List ℕ) → low ≤ last → AreItemsFrom last is → AllByRecursion (λ j. low < j) is
all_later low last [] le h = tt
all_later low last (i ∷ is) le h = (omega (arith, h.0), all_later low i is (omega (arith, h.0)) h.2)

pub items_rise : (last : ℕ) (is : List ℕ) → AreItemsFrom last is → Rising (λ (i j : ℕ). i < j) is
items_rise last [] h = tt
items_rise last (i ∷ is) h = (all_later i i is (omega arith) h.2, items_rise i is h.2)

pub items_added : (old items list : List ℕ) (i : ℕ) → IsUnited old items list → Contains items i
    → (Contains (items_of old) i → ⊥) → ItemsAdded old list items
items_added old items list i u c new = record {
  rises = items_rise 0 (items_of list) u.is_list.items;
  just = λ j. (
    λ on. to j ((u.has j).0 (contained j (items_of list) on)),
    λ on. in_list j (items_of list) ((u.has j).1 (from j on)),
  );
  adds = (i, in_list i items c, λ on. new (contained i (items_of old) on));
}
  where
    to : (j : ℕ) → Contains (items_of old) j ⊎ Contains items j → In j (items_of old) ⊎ In j items
    to j (inl k) = inl (in_list j (items_of old) k)
    to j (inr k) = inr (in_list j items k)

    from : (j : ℕ) → In j (items_of old) ⊎ In j items → Contains (items_of old) j ⊎ Contains items j
    from j (inl on) = inl (contained j (items_of old) on)
    from j (inr on) = inr (contained j items on)
