-- The documents that are there after some commits are among those inserted, and were not deleted.
use Rattle.std.proofs.Common.{◌≡◌, ◌≢◌, ◌⊎◌, ◌<◌, ◌≤◌, ℕ, zero, suc, Bool, true, false, not, ◌==◌, nat_lt, List, []}
use Rattle.std.proofs.Common.{◌∷◌, ◌++◌, length, take, map, refl, sym, ap, subst, ◌∙◌, inl, inr, arith}
use Rattle.std.specs.Prelude.{if◌then◌else◌}
use Rattle.std.specs.List.{flat_map, filter, list_any}
use Rattle.page_types.specs.declared.page.Name.{Name}
use Rattle.core_state.specs.Log.{In}
use Rattle.core_state.specs.History.{Document, History, inserts, deletes, has_serial, with_document, by_serial, stays}
use Rattle.core_state.specs.History.{docs}
use Rattle.core_state.proofs.PageLists.{in_either, in_front, in_back}

-- elements of joined lists
pub in_joined : {A B : Type 0} (f : A → List B) (xs : List A) (b : B) → In b (flat_map f xs)
    → (a : A) × In a xs × In b (f a)
in_joined f [] b i = absurd i
in_joined f (x ∷ xs) b i = elim (in_either b (f x) (flat_map f xs) i) [
  | inl j ↦ (x, inl refl, j)
  | inr j ↦ let r = in_joined f xs b j in (r.0, inr r.1, r.2)
]

pub joined_in : {A B : Type 0} (f : A → List B) (xs : List A) (a : A) (b : B) → In a xs → In b (f a)
    → In b (flat_map f xs)
joined_in f [] a b i j = absurd i
joined_in f (x ∷ xs) a b (inl e) j = in_front b (f x) (flat_map f xs) (subst (λ z. In b (f z)) e j)
joined_in f (x ∷ xs) a b (inr i) j = in_back b (f x) (flat_map f xs) (joined_in f xs a b i j)

none_taken : {A : Type 0} (n : ℕ) (a : A) → In a (take n []) → ⊥
none_taken zero a i = i
none_taken (suc n) a i = i

-- the first elements of a list with one more at its end
pub take_last : {A : Type 0} (n : ℕ) (xs : List A) (y a : A) → In a (take n (xs ++ y ∷ []))
    → In a (take n xs) ⊎ ((a ≡ y) × (length xs < n))
take_last zero xs y a i = absurd (none_of xs i)
  where
    none_of : (xs : List _) → In a (take zero (xs ++ y ∷ [])) → ⊥
    none_of [] j = j
    none_of (x ∷ xs) j = j
take_last (suc n) [] y a (inl e) = inr (e, omega arith)
take_last (suc n) [] y a (inr i) = absurd (none_taken n a i)
take_last (suc n) (x ∷ xs) y a (inl e) = inl (inl e)
take_last (suc n) (x ∷ xs) y a (inr i) = elim (take_last n xs y a i) [
  | inl j ↦ inl (inr j)
  | inr j ↦ inr (j.0, omega (arith, j.1))
]

pub take_more : {A : Type 0} (n : ℕ) (xs ys : List A) (a : A) → In a (take n xs) → In a (take n (xs ++ ys))
take_more zero [] ys a i = absurd i
take_more zero (x ∷ xs) ys a i = absurd i
take_more (suc n) [] ys a i = absurd i
take_more (suc n) (x ∷ xs) ys a (inl e) = inl e
take_more (suc n) (x ∷ xs) ys a (inr i) = inr (take_more n xs ys a i)

pub take_end : {A : Type 0} (n : ℕ) (xs : List A) (y : A) → length xs < n → In y (take n (xs ++ y ∷ []))
take_end zero xs y l = absurd (omega (arith, l))
take_end (suc n) [] y l = inl refl
take_end (suc n) (x ∷ xs) y l = inr (take_end n xs y (omega (arith, l)))

-- filtering and sorting give no more
pub filtered : {A : Type 0} (p : A → Bool) (xs : List A) (a : A) → In a (filter p xs) → In a xs × (p a ≡ true)
filtered p [] a i = absurd i
filtered {A} p (x ∷ xs) a i = by (p x) refl (filtered p xs a) i
  where
    by : (b : Bool) → p x ≡ b → (In a (filter p xs) → In a xs × (p a ≡ true))
        → In a (if b then x ∷ filter p xs else filter p xs) → In a (x ∷ xs) × (p a ≡ true)
    by true e more (inl f) = (inl f, ap p f ∙ e)
    by true e more (inr j) = let r = more j in (inr r.0, r.1)
    by false e more j = let r = more j in (inr r.0, r.1)

with_one : (d : Document) (ds : List Document) (a : Document) → In a (with_document d ds) → (a ≡ d) ⊎ In a ds
with_one d [] a (inl e) = inl e
with_one d [] a (inr i) = inr i
with_one d (e ∷ es) a i = by (nat_lt d.name.serial e.name.serial) (with_one d es a) i
  where
    by : (b : Bool) → (In a (with_document d es) → (a ≡ d) ⊎ In a es)
        → In a (if b then d ∷ e ∷ es else e ∷ with_document d es) → (a ≡ d) ⊎ In a (e ∷ es)
    by true more (inl f) = inl f
    by true more (inr j) = inr j
    by false more (inl f) = inr (inl f)
    by false more (inr j) = elim (more j) [ inl f ↦ inl f | inr k ↦ inr (inr k) ]

sorted : (ds : List Document) (a : Document) → In a (by_serial ds) → In a ds
sorted [] a i = i
sorted (d ∷ ds) a i = elim (with_one d (by_serial ds) a i) [ inl e ↦ inl e | inr j ↦ inr (sorted ds a j) ]

any_true : (s : ℕ) (names : List Name) (x : Name) → In x names → x.serial ≡ s → has_serial s names ≡ true
any_true s [] x i e = absurd i
any_true s (y ∷ ys) x (inl f) e = first (y.serial == s) (list_any (λ (z : Name). z.serial == s) ys)
    (grind (arith, e, ap (λ (z : Name). z.serial) f))
  where
    first : (a b : Bool) → a ≡ true → Rattle.std.proofs.Common.◌||◌ a b ≡ true
    first true b g = refl
    first false b g = cc
any_true s (y ∷ ys) x (inr i) e = second (y.serial == s) (has_serial s ys) (any_true s ys x i e)
  where
    second : (a b : Bool) → b ≡ true → Rattle.std.proofs.Common.◌||◌ a b ≡ true
    second true b g = refl
    second false b g = g

-- a document that is there was inserted, and no name of its serial was deleted
pub there_inserted : (H : History) (d : Document) → In d (docs H) → In d (inserts H)
there_inserted H d i = (filtered (λ (e : Document). stays e (deletes H)) (inserts H) d
    (sorted (filter (λ (e : Document). stays e (deletes H)) (inserts H)) d i)).0

pub there_undeleted : (H : History) (d : Document) → In d (docs H) → (x : Name) → In x (deletes H)
    → x.serial ≡ d.name.serial → ⊥
there_undeleted H d i x j e =
    let kept : stays d (deletes H) ≡ true =
    (filtered (λ (f : Document). stays f (deletes H)) (inserts H) d
    (sorted (filter (λ (f : Document). stays f (deletes H)) (inserts H)) d i)).1 in
    clash (has_serial d.name.serial (deletes H)) (any_true d.name.serial (deletes H) x j e) kept
  where
    clash : (b : Bool) → b ≡ true → not b ≡ true → ⊥
    clash true f g = cc
    clash false f g = cc
