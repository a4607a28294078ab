-- The pages on a record's list, one by one, before and after it.
use Rattle.std.proofs.Common.{◌≡◌, ◌≢◌, ◌⊎◌, ℕ, List, [], ◌∷◌, ◌++◌, map, refl, sym, ap, subst, ◌∙◌, inl, inr, arith}
use Rattle.page_types.specs.declared.page.Page.{Page}
use Rattle.page_types.specs.declared.page.Body.TheVariants as body
use Rattle.page_types.specs.declared.record.Record.{Record}
use Rattle.core_state.specs.Log.{Pages, In}
use Rattle.core_state.specs.Changes.{made_with}
use Rattle.core_state.specs.TreeRules.{IsUnlinked}

pub same_or_not : (p q : ℕ) → (q ≡ p) ⊎ (q ≢ p)
same_or_not p q = grind arith

-- x is in the list, or isn't
pub in_or_not : (x : ℕ) (xs : List ℕ) → In x xs ⊎ (In x xs → ⊥)
in_or_not x [] = inr (λ i. i)
in_or_not x (y ∷ ys) = elim (same_or_not y x) [
  | inl e ↦ inl (inl e)
  | inr d ↦ elim (in_or_not x ys) [ inl i ↦ inl (inr i) | inr off ↦ inr (λ i. elim i [ inl e ↦ d e | inr j ↦ off j ]) ]
]

pub in_front : {A : Type 0} (x : A) (xs ys : List A) → In x xs → In x (xs ++ ys)
in_front x [] ys i = absurd i
in_front x (y ∷ xs) ys (inl e) = inl e
in_front x (y ∷ xs) ys (inr i) = inr (in_front x xs ys i)

pub in_back : {A : Type 0} (x : A) (xs ys : List A) → In x ys → In x (xs ++ ys)
in_back x [] ys i = i
in_back x (y ∷ xs) ys i = inr (in_back x xs ys i)

pub in_either : {A : Type 0} (x : A) (xs ys : List A) → In x (xs ++ ys) → In x xs ⊎ In x ys
in_either x [] ys i = inr i
in_either x (y ∷ xs) ys (inl e) = inl (inl e)
in_either x (y ∷ xs) ys (inr i) = elim (in_either x xs ys i) [ inl j ↦ inl (inr j) | inr j ↦ inr j ]

-- what holds of each of up to three pages holds of each on the list
pub of_none : (T : ℕ → Type 0) (ps : List ℕ) → ps ≡ [] → (p : ℕ) → In p ps → T p
of_none T ps e p i = absurd (subst (In p) e i)

pub of_one : (T : ℕ → Type 0) (ps : List ℕ) (a : ℕ) → ps ≡ a ∷ [] → T a → (p : ℕ) → In p ps → T p
of_one T ps a e ta p i = elim (subst (In p) e i) [ inl s ↦ subst T (sym s) ta | inr n ↦ absurd n ]

pub of_two : (T : ℕ → Type 0) (ps : List ℕ) (a b : ℕ) → ps ≡ a ∷ b ∷ [] → T a → T b → (p : ℕ) → In p ps → T p
of_two T ps a b e ta tb p i = elim (subst (In p) e i) [
  | inl s ↦ subst T (sym s) ta
  | inr (inl s) ↦ subst T (sym s) tb
  | inr (inr n) ↦ absurd n
]

pub of_three : (T : ℕ → Type 0) (ps : List ℕ) (a b c : ℕ) → ps ≡ a ∷ b ∷ c ∷ [] → T a → T b → T c → (p : ℕ) → In p ps
    → T p
of_three T ps a b c e ta tb tc p i =
    elim (subst (In p) e i) [
      | inl s ↦ subst T (sym s) ta
      | inr (inl s) ↦ subst T (sym s) tb
      | inr (inr (inl s)) ↦
          subst T (sym s) tc
      | inr (inr (inr n)) ↦ absurd n
    ]

-- what is on the pages of a list
pub one_page : (P : Pages) (ps : List ℕ) (a : ℕ) (x : Page) → ps ≡ a ∷ [] → map P ps ≡ x ∷ [] → P a ≡ x
one_page P ps a x e f = let g : P a ∷ [] ≡ x ∷ [] = sym (ap (map P) e) ∙ f in cc

pub two_pages : (P : Pages) (ps : List ℕ) (a b : ℕ) (x y : Page) → ps ≡ a ∷ b ∷ [] → map P ps ≡ x ∷ y ∷ [] → (P a ≡ x)
    × (P b ≡ y)
two_pages P ps a b x y e f = let g : P a ∷ P b ∷ [] ≡ x ∷ y ∷ [] = sym (ap (map P) e) ∙ f in (cc, cc)

pub three_pages : (P : Pages) (ps : List ℕ) (a b c : ℕ) (x y z : Page) → ps ≡ a ∷ b ∷ c ∷ []
    → map P ps ≡ x ∷ y ∷ z ∷ [] → (P a ≡ x) × (P b ≡ y) × (P c ≡ z)
three_pages P ps a b c x y z e f = let g : P a ∷ P b ∷ P c ∷ [] ≡ x ∷ y ∷ z ∷ [] = sym (ap (map P) e)
    ∙ f in (cc, cc, cc)

-- a leaf to the left of page `page`, whose right link becomes `to`
pub record LeftLeaf (P Q : Pages) (r : Record) (page to q : ℕ) : Type 0 where
  pub high : ℕ
  pub items : List ℕ
  pub was : (P q).body ≡ body.PostLeaf high items
  pub link : (P q).right ≡ page
  pub after : Q q ≡ made_with r to (body.PostLeaf high items)

-- the pages of a deletion: the page itself, its parent, and a left leaf or none
pub record Unlinked (P Q : Pages) (r : Record) (page parent to : ℕ) (lefts : List ℕ) (old left old_parent
    left_parent : Page) : Type 0 where
  pub was : P page ≡ old
  pub is : Q page ≡ left
  pub parent_was : P parent ≡ old_parent
  pub parent_is : Q parent ≡ left_parent
  pub leaf : (lefts ≡ []) ⊎ ((q : ℕ) × (lefts ≡ q ∷ []) × LeftLeaf P Q r page to q)

pub unlinked_pages : (P Q : Pages) (r : Record) (page parent to : ℕ) (lefts : List ℕ) (before after : List Page)
    (old left old_parent left_parent : Page) (ps : List ℕ)
    → IsUnlinked r page to lefts before after → ps ≡ page ∷ (lefts ++ parent ∷ [])
    → map P ps ≡ old ∷ (before ++ old_parent ∷ []) → map Q ps ≡ left ∷ (after ++ left_parent ∷ [])
    → Unlinked P Q r page parent to lefts old left old_parent left_parent
unlinked_pages P Q r page parent to lefts before after old left old_parent left_parent ps IsUnlinked.none e f g =
    let b = two_pages P ps page parent old old_parent e f in
    let a = two_pages Q ps page parent left left_parent e g in
    record { was = b.0; is = a.0; parent_was = b.1; parent_is = a.1; leaf = inl refl }
unlinked_pages P Q r page parent to lefts before after old left old_parent left_parent ps (IsUnlinked.one q was high
    items leaf link) e f g =
    let b = three_pages P ps page q parent old was old_parent e f in
    let a = three_pages Q ps page q parent left (made_with r to was.body) left_parent e g in
    record {
      was = b.0;
      is = a.0;
      parent_was = b.2;
      parent_is = a.2;
      leaf = inr (
        q,
        refl,
        record {
          high = high;
          items = items;
          was = ap (λ (x : Page). x.body) b.1 ∙ leaf;
          link = ap (λ (x : Page). x.right) b.1 ∙ link;
          after = a.1 ∙ ap (made_with r to) leaf;
        },
      );
    }
