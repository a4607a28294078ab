-- Lists that rise, and the keys of rows.
use Rattle.std.proofs.Common.{◌≡◌, ℕ, List, [], ◌∷◌, ◌++◌, refl, ap, subst, ◌∙◌, inl, inr}
use Rattle.std.specs.List.{AllByRecursion}
use Rattle.std.proofs.lemmas.List.Concat.{flat_map-append}
use Rattle.page_types.specs.Keys.{KeyLess, Rising}
use Rattle.page_types.specs.Views.{rows_of}
use Rattle.page_types.specs.declared.page.Page.{Page}
use Rattle.page_types.specs.declared.page.Row.{Row}
use Rattle.core_state.specs.Log.{Pages, In}
use Rattle.core_state.specs.Index.{rows_on, keys_on}

pub all_front : {A : Type 0} (T : A → Type 0) (xs ys : List A) → AllByRecursion T (xs ++ ys) → AllByRecursion T xs
all_front T [] ys h = tt
all_front T (x ∷ xs) ys h = (h.0, all_front T xs ys h.1)

pub all_both : {A : Type 0} (T : A → Type 0) (xs ys : List A) → AllByRecursion T xs → AllByRecursion T ys
    → AllByRecursion T (xs ++ ys)
all_both T [] ys h k = k
all_both T (x ∷ xs) ys h k = (h.0, all_both T xs ys h.1 k)

pub rising_front : {A : Type 0} (R : A → A → Type 0) (xs ys : List A) → Rising R (xs ++ ys) → Rising R xs
rising_front R [] ys h = tt
rising_front R (x ∷ xs) ys h = (all_front (R x) xs ys h.0, rising_front R xs ys h.1)

pub rising_back : {A : Type 0} (R : A → A → Type 0) (xs ys : List A) → Rising R (xs ++ ys) → Rising R ys
rising_back R [] ys h = h
rising_back R (x ∷ xs) ys h = rising_back R xs ys h.1

-- the keys of the first of some rows
pub keys_front : (ws xs : List Row) → Rising KeyLess (keys_on (ws ++ xs)) → Rising KeyLess (keys_on ws)
keys_front ws xs h = rising_front KeyLess (keys_on ws) (keys_on xs)
    (subst (Rising KeyLess) (flat_map-append (λ (w : Row). w.keys) ws xs) h)

-- the rows on pages that stay
pub rows_kept : (P Q : Pages) (qs : List ℕ) → ((q : ℕ) → In q qs → Q q ≡ P q) → rows_on Q qs ≡ rows_on P qs
rows_kept P Q [] same = refl
rows_kept P Q (q ∷ qs) same =
    ap (λ (p : Page). rows_of p ++ rows_on Q qs) (same q (inl refl))
    ∙ ap (λ (ws : List Row). rows_of (P q) ++ ws) (rows_kept P Q qs (λ z i. same z (inr i)))
