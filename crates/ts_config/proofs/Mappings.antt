-- Lists of a mapping that are replaced.
use Rattle.std.proofs.Common.{◌≡◌, ◌≢◌, ◌⊎◌, inl, inr, ℕ, zero, suc, ◌+◌, ◌<◌, List, [], ◌∷◌, ◌++◌, Bool, true, false}
use Rattle.std.proofs.Common.{length, take, refl, sym, ◌∙◌, ap, get_or, get_or-set_other}
use Rattle.std.specs.Prelude.{slice_set}
use Rattle.std.proofs.lemmas.Bool.{cases_eq}
use Rattle.std.proofs.lemmas.List.{take_more}
use Rattle.ts_parser.specs.declared.kinds.TokenType.{TokenType}
use Rattle.ts_config.specs.Mappings.{Mapping, with_list, mapped}

-- one type more
pub mapped_more : (kinds : List TokenType) (kind : TokenType) (places : List ℕ) (m : Mapping)
    → mapped (kinds ++ kind ∷ []) places m ≡ with_list (mapped kinds places m) kind places
mapped_more [] kind places m = refl
mapped_more (k ∷ ks) kind places m = mapped_more ks kind places (with_list m k places)

module _ {A : Type 0} where
  -- what is written twice is as if it were written once
  pub set_twice : (xs : List A) (i : ℕ) (x : A) → slice_set (slice_set xs i x) i x ≡ slice_set xs i x
  set_twice [] i x = refl
  set_twice (y ∷ ys) zero x = refl
  set_twice (y ∷ ys) (suc i) x = ap (λ z. y ∷ z) (set_twice ys i x)

  -- and stays where the same is written elsewhere
  pub set_beside : (xs : List A) (i j : ℕ) (x : A) → slice_set xs j x ≡ xs
      → slice_set (slice_set xs i x) j x ≡ slice_set xs i x
  set_beside [] i j x e = refl
  set_beside (y ∷ ys) zero zero x e = refl
  set_beside (y ∷ ys) zero (suc j) x e = ap (λ z. x ∷ z) (tail_of e)
    where
      tail_of : y ∷ slice_set ys j x ≡ y ∷ ys → slice_set ys j x ≡ ys
      tail_of e = cc
  set_beside (y ∷ ys) (suc i) zero x e = ap (λ z. z ∷ slice_set ys i x) (head_of e)
    where
      head_of : x ∷ ys ≡ y ∷ ys → x ≡ y
      head_of e = cc
  set_beside (y ∷ ys) (suc i) (suc j) x e = ap (λ z. y ∷ z) (set_beside ys i j x (tail_of e))
    where
      tail_of : y ∷ slice_set ys j x ≡ y ∷ ys → slice_set ys j x ≡ ys
      tail_of e = cc

-- the types from the first on
pub mapped_next : (kinds : List TokenType) (i : ℕ) (d : TokenType) (places : List ℕ) (old now : Mapping)
    → i < length kinds → now ≡ mapped (take i kinds) places old
    → with_list now (get_or kinds i d) places ≡ mapped (take (i + 1) kinds) places old
mapped_next kinds i d places old now lt e =
    ap (λ m. with_list m (get_or kinds i d) places) e ∙ sym (mapped_more (take i kinds) (get_or kinds i d) places old)
    ∙ ap (λ ks. mapped ks places old) (sym (take_more kinds i d lt))

-- the types that are marked have the list
abbrev pub AreMarked : List Bool → List ℕ → Mapping → Type 0
AreMarked seen places m = (j : ℕ) → get_or seen j false ≡ true → slice_set m j places ≡ m

pub marked_more : (seen : List Bool) (places : List ℕ) (m : Mapping) (i : ℕ) → AreMarked seen places m
    → AreMarked (slice_set seen i true) places (slice_set m i places)
marked_more seen places m i h j k = by (cases_eq j i)
  where
    by : (j ≡ i) ⊎ (j ≢ i) → slice_set (slice_set m i places) j places ≡ slice_set m i places
    by (inl e) = ap (λ n. slice_set (slice_set m i places) n places) e ∙ set_twice m i places
    by (inr n) = set_beside m i j places (h j (sym (get_or-set_other seen i j true false n) ∙ k))
