-- The children of an inner page: they lie side by side between its bounds.
use Rattle.std.proofs.Common.{◌≡◌, ◌≢◌, ℕ, List, [], ◌∷◌, ◌++◌, refl, sym, subst, ◌∙◌, inl, inr}
use Rattle.core_state.specs.Log.{In}
use Rattle.core_state.specs.Trees.Nodes.{Order, Child, TreeGhost, AtMost, Kids}
use Rattle.core_state.specs.Trees.Nodes.TreePlace.{tree}
use Rattle.core_state.proofs.Trees.Order.{less_at_most}
use Rattle.core_state.proofs.Trees.Members.{in_middle}

-- each page of the level is live between its bounds
abbrev pub Spans : {E : Type 0} → Order E → TreeGhost E → ℕ → ℕ → Type 0
Spans o g r h = (q : ℕ) → g.place q ≡ tree r h → o.less (g.low q) (g.high q)

module _ {E : Type 0} (o : Order E) (top : E) where
  pub kid_within : (g : TreeGhost E) (r h : ℕ) (lo hi : E) (cs : List (Child E)) → Spans o g r h
      → Kids o top g r h lo cs hi
      → AtMost o top lo hi
  kid_within g r h lo hi [] span ok = inr ok
  kid_within g r h lo hi (c ∷ cs) span ok =
      let first : o.less lo c.bound =
      subst (λ (x : E). o.less x c.bound) ok.1 (subst (λ (x : E). o.less (g.low c.page) x) ok.2 (span c.page ok.0))
      in
      inl (less_at_most o top lo c.bound hi first (kid_within g r h c.bound hi cs span ok.3))

  pub kid_place : (g : TreeGhost E) (r h : ℕ) (lo hi : E) (cs : List (Child E)) → Spans o g r h
      → Kids o top g r h lo cs hi
      → (c : Child E) → In c cs
      → (g.place c.page ≡ tree r h) × AtMost o top lo (g.low c.page) × AtMost o top (g.high c.page) hi
  kid_place g r h lo hi [] span ok c i = absurd i
  kid_place g r h lo hi (d ∷ cs) span ok c (inl e) =
      subst (λ (x : Child E). (g.place x.page ≡ tree r h) × AtMost o top lo (g.low x.page)
      × AtMost o top (g.high x.page) hi) (sym e)
      (ok.0, inr (sym ok.1), subst (λ (x : E). AtMost o top x hi) (sym ok.2) (kid_within g r h d.bound hi cs span ok.3))
  kid_place g r h lo hi (d ∷ cs) span ok c (inr i) =
      let rest = kid_place g r h d.bound hi cs span ok.3 c i in
      let first : o.less lo d.bound =
      subst (λ (x : E). o.less x d.bound) ok.1 (subst (λ (x : E). o.less (g.low d.page) x) ok.2 (span d.page ok.0))
      in
      (rest.0, inl (less_at_most o top lo d.bound (g.low c.page) first rest.1), rest.2)

  -- a child's bound is its high bound
  pub kid_bound : (g : TreeGhost E) (r h : ℕ) (lo hi : E) (cs : List (Child E)) → Kids o top g r h lo cs hi
      → (c : Child E)
      → In c cs → g.high c.page ≡ c.bound
  kid_bound g r h lo hi [] ok c i = absurd i
  kid_bound g r h lo hi (d ∷ cs) ok c (inl e) = subst (λ (x : Child E). g.high x.page ≡ x.bound) (sym e) ok.2
  kid_bound g r h lo hi (d ∷ cs) ok c (inr i) = kid_bound g r h d.bound hi cs ok.3 c i

  -- kids that a change of the ghost does not touch
  pub kids_kept : (g g' : TreeGhost E) (r h : ℕ) (lo hi : E) (cs : List (Child E))
      → ((c : Child E) → In c cs → (g'.place c.page ≡ g.place c.page) × (g'.low c.page ≡ g.low c.page)
      × (g'.high c.page ≡ g.high c.page)) → Kids o top g r h lo cs hi → Kids o top g' r h lo cs hi
  kids_kept g g' r h lo hi [] same ok = ok
  kids_kept g g' r h lo hi (c ∷ cs) same ok =
      let s = same c (inl refl) in
      (s.0 ∙ ok.0, s.1 ∙ ok.1, s.2 ∙ ok.2, kids_kept g g' r h c.bound hi cs (λ d i. same d (inr i)) ok.3)

  -- a list of children is cut after one of them
  pub kids_front : (g : TreeGhost E) (r h : ℕ) (lo hi : E) (xs : List (Child E)) (c : Child E) (ys : List (Child E))
      → Kids o top g r h lo (xs ++ c ∷ ys) hi → Kids o top g r h lo (xs ++ c ∷ []) c.bound
  kids_front g r h lo hi [] c ys ok = (ok.0, ok.1, ok.2, refl)
  kids_front g r h lo hi (x ∷ xs) c ys ok = (ok.0, ok.1, ok.2, kids_front g r h x.bound hi xs c ys ok.3)

  pub kids_back : (g : TreeGhost E) (r h : ℕ) (lo hi : E) (xs : List (Child E)) (c : Child E) (ys : List (Child E))
      → Kids o top g r h lo (xs ++ c ∷ ys) hi → Kids o top g r h c.bound ys hi
  kids_back g r h lo hi [] c ys ok = ok.3
  kids_back g r h lo hi (x ∷ xs) c ys ok = kids_back g r h x.bound hi xs c ys ok.3

  -- the children from some on lie side by side from where they begin
  pub kids_tail : (g : TreeGhost E) (r h : ℕ) (lo hi : E) (xs ys : List (Child E)) → Kids o top g r h lo (xs ++ ys) hi
      → (mid : E) × Kids o top g r h mid ys hi
  kids_tail g r h lo hi [] ys ok = (lo, ok)
  kids_tail g r h lo hi (x ∷ xs) ys ok = kids_tail g r h x.bound hi xs ys ok.3

  pub kids_span : (g : TreeGhost E) (r h : ℕ) (lo hi : E) (cs : List (Child E)) → Spans o g r h → cs ≢ []
      → Kids o top g r h lo cs hi → o.less lo hi
  kids_span g r h lo hi [] span n ok = absurd (n refl)
  kids_span g r h lo hi (c ∷ cs) span n ok =
      let first : o.less lo c.bound =
      subst (λ (x : E). o.less x c.bound) ok.1 (subst (λ (x : E). o.less (g.low c.page) x) ok.2 (span c.page ok.0))
      in
      less_at_most o top lo c.bound hi first (kid_within g r h c.bound hi cs span ok.3)

  -- a child's bound is at most the low bound of each after it
  pub kids_order : (g : TreeGhost E) (r h : ℕ) (lo hi : E) (xs : List (Child E)) (c : Child E) (ys : List (Child E))
      → Spans o g r h → Kids o top g r h lo (xs ++ c ∷ ys) hi → (b : Child E) → In b xs
      → AtMost o top b.bound (g.low c.page)
  kids_order g r h lo hi [] c ys span ok b i = absurd i
  kids_order g r h lo hi (x ∷ xs) c ys span ok b (inl e) =
      subst (λ (z : Child E). AtMost o top z.bound (g.low c.page)) (sym e)
      (kid_place g r h x.bound hi (xs ++ c ∷ ys) span ok.3 c (in_middle xs c ys)).1
  kids_order g r h lo hi (x ∷ xs) c ys span ok b (inr i) = kids_order g r h x.bound hi xs c ys span ok.3 b i

  -- a child begins below a key where the list does, and where all bounds before it are below the key
  pub kid_below : (g : TreeGhost E) (r h : ℕ) (lo hi k : E) (xs : List (Child E)) (c : Child E) (ys : List (Child E))
      → Kids o top g r h lo (xs ++ c ∷ ys) hi → o.less lo k → ((b : Child E) → In b xs → o.less b.bound k)
      → o.less (g.low c.page) k
  kid_below g r h lo hi k [] c ys ok l each = subst (λ (x : E). o.less x k) (sym ok.1) l
  kid_below g r h lo hi k (x ∷ xs) c ys ok l each =
      kid_below g r h x.bound hi k xs c ys ok.3 (each x (inl refl)) (λ b i. each b (inr i))
