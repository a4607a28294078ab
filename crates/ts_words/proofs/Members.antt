-- Which words a list has.
use Rattle.std.proofs.Common.{◌≡◌, ◌⊎◌, inl, inr, ℕ, List, [], ◌∷◌, ◌++◌, Bool, true, false, cond, ◌||◌, map, refl, sym}
use Rattle.std.proofs.Common.{◌∙◌, ap, subst}
use Rattle.std.specs.Prelude.{◌↔◌, bytes_eq, string_bytes, String, Contains}
use Rattle.std.specs.List.{Any, list_any}
use Rattle.std.specs.Ordering.{nat_cmp}
use Rattle.std.specs.Cmp.Lexicographic.{slice_cmp, nat_list_eq_equiv}
use Rattle.std.specs.BTreeMap.{is_at}
use Rattle.std.specs.declared.alloc.Global.{Global}
use Rattle.std.proofs.lemmas.Slice.Eq.{bytes_eq-Decides}
use Rattle.std.proofs.lemmas.Map.Text.{is_eq-slice_cmp}
use Rattle.std.proofs.lemmas.Map.Views.{list_any-from_Contains, Contains-from_any}
use Rattle.std.proofs.lemmas.List.Elements.{Contains-append_left, Contains-push_cases}
use Rattle.ts_words.specs.Simple.{is_stop}

-- the set is asked by the order of bytes, and the list by equality
pub asked : (word : List ℕ) (ks : List (String Global))
    → list_any (is_at (λ k. slice_cmp nat_cmp word (string_bytes k))) ks ≡ is_stop (map string_bytes ks) word
asked word [] = refl
asked word (k ∷ ks) = (λ i. is_eq-slice_cmp word (string_bytes k) i || asked word ks i)

pub there : (words : List (List ℕ)) (word : List ℕ) → is_stop words word ≡ true → Contains words word
there words word h = Contains-from_any {eq = bytes_eq} (λ x y. (bytes_eq-Decides x y).0) word words h

pub found : (words : List (List ℕ)) (word : List ℕ) → Contains words word → is_stop words word ≡ true
found words word h = list_any-from_Contains nat_list_eq_equiv word words h

-- one word more
pub one_more : (old new : List (List ℕ)) (added : List ℕ)
    → ((w : List ℕ) → is_stop new w ≡ cond (bytes_eq added w) true (is_stop old w)) → (w : List ℕ)
    → Contains new w ↔ (Contains old w ⊎ (w ≡ added))
one_more old new added h w =
    (λ c. first (bytes_eq added w) refl (sym (h w) ∙ found new w c), λ c. there new w (h w ∙ second c))
  where
    first : (b : Bool) → bytes_eq added w ≡ b → cond (bytes_eq added w) true (is_stop old w) ≡ true
        → Contains old w ⊎ (w ≡ added)
    first true e k = inr (sym ((bytes_eq-Decides added w).0 e))
    first false e k = inl (there old w (sym (ap (λ t. cond t true (is_stop old w)) e) ∙ k))

    second : Contains old w ⊎ (w ≡ added) → cond (bytes_eq added w) true (is_stop old w) ≡ true
    second (inl c) = by (bytes_eq added w)
      where
        by : (b : Bool) → cond b true (is_stop old w) ≡ true
        by true = refl
        by false = found old w c
    second (inr e) = ap (λ t. cond t true (is_stop old w)) ((bytes_eq-Decides added w).1 (sym e))

module _ {X : Type 0} (P : X → Type 0) (xs : List X) (y : X) where
  pub any_old : Any P xs → Any P (xs ++ y ∷ [])
  any_old (k, x, l, e, p) = let c = Contains-append_left xs (y ∷ []) x (k, l, e) in (c.0, x, c.1, c.2, p)

  pub any_cases : Any P (xs ++ y ∷ []) → Any P xs ⊎ P y
  any_cases (k, x, l, e, p) = by (Contains-push_cases xs y x (k, l, e))
    where
      by : Contains xs x ⊎ (y ≡ x) → Any P xs ⊎ P y
      by (inl c) = inl (c.0, x, c.1, c.2, p)
      by (inr s) = inr (subst P (sym s) p)
