-- Entries that rise, with one of them put in or left out.
use Rattle.std.proofs.Common.{◌≡◌, ℕ, zero, suc, List, [], ◌∷◌, ◌++◌, take, drop, refl, sym, ap}
use Rattle.std.proofs.Common.{subst, inl, inr}
use Rattle.std.specs.Prelude.{Some}
use Rattle.std.specs.List.{AllByRecursion, slice_get}
use Rattle.std.proofs.lemmas.Option.{same_Some}
use Rattle.page_types.specs.Keys.{KeyLess, Rising}
use Rattle.page_types.specs.Pages.{IsEntry, AreEntries}
use Rattle.page_types.specs.Views.{with_postings}
use Rattle.page_types.specs.declared.page.Entry.{Entry}
use Rattle.page_types.specs.declared.page.Postings.{Postings}
use Rattle.core_state.specs.Log.{In}
use Rattle.core_state.specs.TreeRules.{IsEntryBetween}
use Rattle.entry_tree.specs.Adding.{list_entry}

-- ---- any list

all_without : {A : Type 0} (P : A → Type 0) (front back : List A) (x : A) → AllByRecursion P (front ++ x ∷ back)
    → AllByRecursion P (front ++ back)
all_without P [] back x h = h.1
all_without P (f ∷ front) back x h = (h.0, all_without P front back x h.1)

rising_without : {A : Type 0} (R : A → A → Type 0) (front back : List A) (x : A) → Rising R (front ++ x ∷ back)
    → Rising R (front ++ back)
rising_without R [] back x h = h.1
rising_without R (f ∷ front) back x h = (all_without (R f) front back x h.0, rising_without R front back x h.1)

all_with : {A : Type 0} (P : A → Type 0) (front back : List A) (x : A) → P x → AllByRecursion P (front ++ back)
    → AllByRecursion P (front ++ x ∷ back)
all_with P [] back x p h = (p, h)
all_with P (f ∷ front) back x p h = (h.0, all_with P front back x p h.1)

rising_with : {A : Type 0} (R : A → A → Type 0) (front back : List A) (x : A) → ((f : A) → In f front → R f x)
    → AllByRecursion (R x) back → Rising R (front ++ back) → Rising R (front ++ x ∷ back)
rising_with R [] back x below above h = (above, h)
rising_with R (f ∷ front) back x below above h = (
  all_with (R f) front back x (below f (inl refl)) h.0,
  rising_with R front back x (λ g on. below g (inr on)) above h.1,
)

all_of : {A : Type 0} (P : A → Type 0) (xs : List A) → ((x : A) → In x xs → P x) → AllByRecursion P xs
all_of P [] h = tt
all_of P (x ∷ xs) h = (h x (inl refl), all_of P xs (λ y on. h y (inr on)))

pub all_in : {A : Type 0} (P : A → Type 0) (xs : List A) (x : A) → AllByRecursion P xs → In x xs → P x
all_in P [] x h on = absurd on
all_in P (y ∷ ys) x h (inl e) = subst P (sym e) h.0
all_in P (y ∷ ys) x h (inr on) = all_in P ys x h.1 on

pub in_there : {A : Type 0} (xs : List A) (k : ℕ) (x : A) → slice_get xs k ≡ Some x → In x xs
in_there [] k x e = absurd cc
in_there (y ∷ ys) zero x e = inl (sym (same_Some y x e))
in_there (y ∷ ys) (suc k) x e = inr (in_there ys k x e)

pub in_middle : {A : Type 0} (front back : List A) (x : A) → In x (front ++ x ∷ back)
in_middle [] back x = inl refl
in_middle (f ∷ front) back x = inr (in_middle front back x)

-- what comes after a place is above what is there
pub after_greater : {A : Type 0} (R : A → A → Type 0) (xs : List A) (k : ℕ) (x y : A) → Rising R xs
    → slice_get xs k ≡ Some x → In y (drop (suc k) xs) → R x y
after_greater R [] k x y h e on = absurd cc
after_greater R (z ∷ zs) zero x y h e on =
    subst (λ w. R w y) (same_Some z x e) (all_in (R z) zs y h.0 on)
after_greater R (z ∷ zs) (suc k) x y h e on = after_greater R zs k x y h.1 e on

-- ---- entries

pub with_postings_at : (entries : List Entry) (k : ℕ) (e : Entry) (p : Postings) → slice_get entries k ≡ Some e
    → with_postings entries k p ≡ take k entries ++ record { key = e.key; postings = p } ∷ drop (suc k) entries
with_postings_at [] k e p at = absurd cc
with_postings_at (d ∷ entries) zero e p at =
    let P : Entry → List Entry = λ x. record { key = x.key; postings = p } ∷ entries in ap P (same_Some d e at)
with_postings_at (d ∷ entries) (suc k) e p at =
    ap (λ (es : List Entry). d ∷ es) (with_postings_at entries k e p at)

others : (entries front back : List Entry) (key old : List ℕ) → AreEntries entries
    → IsEntryBetween entries front back key old → AreEntries (front ++ back)
others entries front back key old are (inl e) =
    let here : AreEntries (front ++ list_entry key old ∷ back) = subst AreEntries e are in
    record {
      each = all_without IsEntry front back (list_entry key old) here.each;
      rising = rising_without (λ d e. KeyLess d.key e.key) front back (list_entry key old) here.rising;
    }
others entries front back key old are (inr e) = subst AreEntries e.0 are

-- a leaf's entries with the key's one, between those below and above it
pub around_are : (entries front back : List Entry) (key old list : List ℕ) → AreEntries entries
    → IsEntryBetween entries front back key old → ((e : Entry) → In e front → KeyLess e.key key)
    → ((e : Entry) → In e back → KeyLess key e.key) → IsEntry (list_entry key list)
    → AreEntries (front ++ list_entry key list ∷ back)
around_are entries front back key old list are between above below is =
    let rest = others entries front back key old are between in
    record {
      each = all_with IsEntry front back (list_entry key list) is rest.each;
      rising = rising_with (λ d e. KeyLess d.key e.key) front back (list_entry key list) above
          (all_of (λ (e : Entry). KeyLess key e.key) back below) rest.rising;
    }
