-- Lists of which each two elements are apart.
use Rattle.std.proofs.Common.{◌≡◌, zero, suc, List, [], ◌∷◌, ◌++◌, map, refl, sym, ap, subst}
use Rattle.std.proofs.Common.{inl, inr, arith}
use Rattle.std.specs.List.{AllPairs}
use Rattle.std.proofs.lemmas.List.Kept.{AllPairs-cons}
use Rattle.core_state.specs.Log.{In}
use Rattle.core_state.specs.History.{Document, with_document, by_serial}
use Rattle.core_state.proofs.PageLists.{in_either}
use Rattle.core_state.proofs.NamesInOrder.{all_in, in_all, by_place, with_one, of_sorted}

-- ── elements of mapped lists ──

pub of_map : {A B : Type 0} (f : A → B) (b : B) (xs : List A) → In b (map f xs) → (a : A) × In a xs × (b ≡ f a)
of_map f b [] i = absurd i
of_map f b (x ∷ xs) (inl e) = (x, inl refl, e)
of_map f b (x ∷ xs) (inr i) = let r = of_map f b xs i in (r.0, inr r.1, r.2)

pub in_map : {A B : Type 0} (f : A → B) (a : A) (xs : List A) → In a xs → In (f a) (map f xs)
in_map f a [] i = i
in_map f a (x ∷ xs) (inl e) = inl (ap f e)
in_map f a (x ∷ xs) (inr i) = inr (in_map f a xs i)

-- ── each two are apart ──

module _ {A : Type 0} (Apart : A → A → Type 0) where
  pub pairs_none : AllPairs Apart []
  pairs_none i j d lt within = absurd (omega (arith, lt, within))

  pub pairs_head : (x : A) (xs : List A) → AllPairs Apart (x ∷ xs) → (y : A) → In y xs → Apart x y
  pairs_head x xs h = all_in (Apart x) xs (λ k d l. h zero (suc k) d (omega arith) (omega (arith, l)))

  pub pairs_tail : (x : A) (xs : List A) → AllPairs Apart (x ∷ xs) → AllPairs Apart xs
  pairs_tail x xs h i j d lt within = h (suc i) (suc j) d (omega (arith, lt)) (omega (arith, within))

  pub pairs_more : (x : A) (xs : List A) → ((y : A) → In y xs → Apart x y) → AllPairs Apart xs
      → AllPairs Apart (x ∷ xs)
  pairs_more x xs f h = AllPairs-cons Apart x xs (in_all (Apart x) xs f) h

  pub pairs_joined : (xs ys : List A) → AllPairs Apart xs → AllPairs Apart ys
      → ((x y : A) → In x xs → In y ys → Apart x y) → AllPairs Apart (xs ++ ys)
  pairs_joined [] ys h k f = k
  pairs_joined (x ∷ xs) ys h k f = pairs_more x (xs ++ ys)
      (λ y i. elim (in_either y xs ys i) [ inl j ↦ pairs_head x xs h y j | inr j ↦ f x y (inl refl) j ])
      (pairs_joined xs ys (pairs_tail x xs h) k (λ a b i j. f a b (inr i) j))

pub pairs_weaker : {A : Type 0} (Apart Is : A → A → Type 0) (xs : List A) → AllPairs Apart xs
    → ((a b : A) → In a xs → In b xs → Apart a b → Is a b) → AllPairs Is xs
pairs_weaker Apart Is [] h f = pairs_none Is
pairs_weaker Apart Is (x ∷ xs) h f =
    pairs_more Is x xs (λ y i. f x y (inl refl) (inr i) (pairs_head Apart x xs h y i))
    (pairs_weaker Apart Is xs (pairs_tail Apart x xs h) (λ a b i j. f a b (inr i) (inr j)))

pub pairs_map : {A B : Type 0} (f : A → B) (Apart : B → B → Type 0) (xs : List A)
    → AllPairs (λ (a b : A). Apart (f a) (f b)) xs → AllPairs Apart (map f xs)
pairs_map f Apart [] h = pairs_none Apart
pairs_map {A} f Apart (x ∷ xs) h =
    let On : A → A → Type 0 = λ a b. Apart (f a) (f b) in
    pairs_more Apart (f x) (map f xs)
    (λ y i. let r = of_map f y xs i in subst (Apart (f x)) (sym r.2) (pairs_head On x xs h r.0 r.1))
    (pairs_map f Apart xs (pairs_tail On x xs h))

pub pairs_of_map : {A B : Type 0} (f : A → B) (Apart : B → B → Type 0) (xs : List A) → AllPairs Apart (map f xs)
    → AllPairs (λ (a b : A). Apart (f a) (f b)) xs
pairs_of_map {A} f Apart [] h = pairs_none (λ (a b : A). Apart (f a) (f b))
pairs_of_map {A} f Apart (x ∷ xs) h =
    pairs_more (λ (a b : A). Apart (f a) (f b)) x xs
    (λ y i. pairs_head Apart (f x) (map f xs) h (f y) (in_map f y xs i))
    (pairs_of_map f Apart xs (pairs_tail Apart (f x) (map f xs) h))

-- ── documents by serial ──

module _ (Apart : Document → Document → Type 0) (turned : (a b : Document) → Apart a b → Apart b a) where
  pairs_with : (d : Document) (es : List Document) → AllPairs Apart es → ((e : Document) → In e es → Apart d e)
      → AllPairs Apart (with_document d es)
  pairs_with d [] h f = pairs_more Apart d [] (λ y i. absurd i) (pairs_none Apart)
  pairs_with d (e ∷ es) h f = by_place (λ (zs : List Document). AllPairs Apart zs) d e es
      (λ lt. pairs_more Apart d (e ∷ es) f h)
      (λ le. pairs_more Apart e (with_document d es)
      (λ y i. elim (with_one d es y i) [
        | inl same ↦ subst (Apart e) (sym same) (turned d e (f e (inl refl)))
        | inr j ↦ pairs_head Apart e es h y j
      ])
      (pairs_with d es (pairs_tail Apart e es h) (λ y i. f y (inr i))))

  pub pairs_sorted : (ds : List Document) → AllPairs Apart ds → AllPairs Apart (by_serial ds)
  pairs_sorted [] h = h
  pairs_sorted (d ∷ ds) h = pairs_with d (by_serial ds) (pairs_sorted ds (pairs_tail Apart d ds h))
      (λ e i. pairs_head Apart d ds h e (of_sorted ds e i))
