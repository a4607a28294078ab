-- Where a key is found from a page whose low bound is below it; which pages of a level are one.
use Rattle.std.proofs.Common.{◌≡◌, ◌⊎◌, ℕ, zero, suc, List, [], ◌∷◌, refl, sym, ap, ap₂, subst, ◌∙◌, inl, inr}
use Rattle.core_state.specs.Log.{In}
use Rattle.core_state.specs.Trees.Nodes.{Order, Child, Node, TreeGhost, AtMost, RightOk, Kids, InnerOk, Sane}
use Rattle.core_state.specs.Trees.Nodes.Node.{other, leaf, inner, gone}
use Rattle.core_state.specs.Trees.Nodes.TreePlace.{tree}
use Rattle.core_state.proofs.PageLists.{same_or_not}
use Rattle.core_state.proofs.Trees.Order.{same_tree, same_inner, less_at_most, at_most_less, at_most_trans}
use Rattle.core_state.proofs.Trees.Kids.{kid_place, kid_bound}

abbrev pub right_in : {E : Type 0} → Node E → ℕ
right_in other = 0
right_in (leaf right high keys) = right
right_in (inner right kids) = right
right_in (gone right) = right

module _ {E : Type 0} (o : Order E) (top : E) (N : ℕ → Node E) (g : TreeGhost E) (S : Sane o top N g) where
  -- a page that isn't apart from another of its level is that page
  one_page : (p q r h : ℕ) → g.place p ≡ tree r h → g.place q ≡ tree r h
      → (AtMost o top (g.high p) (g.low q) ⊎ AtMost o top (g.high q) (g.low p) → ⊥) → p ≡ q
  one_page p q r h pp pq clash = elim (same_or_not q p) [ inl e ↦ e | inr n ↦ absurd (clash (S.apart p q r h pp pq n)) ]

  -- nor does a page end where it begins
  pub not_before : (p r h : ℕ) → g.place p ≡ tree r h → AtMost o top (g.high p) (g.low p) → ⊥
  not_before p r h e m = o.irrefl (g.low p) (less_at_most o top (g.low p) (g.high p) (g.low p) (S.span p r h e) m)

  -- only one page of a level covers a key
  pub one_cover : (p q r h : ℕ) (k : E) → g.place p ≡ tree r h → g.place q ≡ tree r h → o.less (g.low p) k
      → AtMost o top k (g.high p) → o.less (g.low q) k → AtMost o top k (g.high q) → p ≡ q
  one_cover p q r h k pp pq lp hp lq hq = one_page p q r h pp pq (λ m. elim m [
    | inl a ↦ o.irrefl k (at_most_less o top k (g.high p) k hp (at_most_less o top (g.high p) (g.low q) k a lq))
    | inr a ↦ o.irrefl k (at_most_less o top k (g.high q) k hq (at_most_less o top (g.high q) (g.low p) k a lp))
  ])

  -- two pages of a level with one low bound, or one high bound, are one
  pub one_low : (p q r h : ℕ) → g.place p ≡ tree r h → g.place q ≡ tree r h → g.low p ≡ g.low q → p ≡ q
  one_low p q r h pp pq e = one_page p q r h pp pq (λ m. elim m [
    | inl a ↦ not_before p r h pp (subst (λ (z : E). AtMost o top (g.high p) z) (sym e) a)
    | inr a ↦ not_before q r h pq (subst (λ (z : E). AtMost o top (g.high q) z) e a)
  ])

  pub one_high : (p q r h : ℕ) → g.place p ≡ tree r h → g.place q ≡ tree r h → g.high p ≡ g.high q → p ≡ q
  one_high p q r h pp pq e = one_page p q r h pp pq (λ m. elim m [
    | inl a ↦ not_before q r h pq (subst (λ (z : E). AtMost o top z (g.low q)) e a)
    | inr a ↦ not_before p r h pp (subst (λ (z : E). AtMost o top z (g.low p)) (sym e) a)
  ])

  -- so are two within both of which a page lies
  one_round : (p q y r h i : ℕ) → g.place p ≡ tree r h → g.place q ≡ tree r h → g.place y ≡ tree r i
      → AtMost o top (g.low p) (g.low y) × AtMost o top (g.high y) (g.high p) → AtMost o top (g.low q) (g.low y)
      × AtMost o top (g.high y) (g.high q) → p ≡ q
  one_round p q y r h i pp pq py a b = one_page p q r h pp pq (λ m. elim m [
    | inl c ↦ not_before y r i py (at_most_trans o top _ _ _ a.1 (at_most_trans o top _ _ _ c b.0))
    | inr c ↦ not_before y r i py (at_most_trans o top _ _ _ b.1 (at_most_trans o top _ _ _ c a.0))
  ])

  -- what an inner page says of a child
  pub kid_of : (x r h : ℕ) (ok : InnerOk o top N g x r h) (c : Child E) → In c ok.kids → (g.place c.page ≡ tree r h)
      × AtMost o top (g.low x) (g.low c.page) × AtMost o top (g.high c.page) (g.high x)
  kid_of x r h ok c i = kid_place o top g r h (g.low x) (g.high x) ok.kids (λ (y : ℕ) t. S.span y r h t) ok.kids_ok c i

  -- the same where the page's children are known
  inner_lists : (x r h right : ℕ) (cs : List (Child E)) (ok : InnerOk o top N g x r h) → N x ≡ inner right cs
      → ok.kids ≡ cs
  inner_lists x r h right cs ok e = (same_inner _ _ _ _ (sym ok.node ∙ e)).1

  pub kids_here : (x r h right : ℕ) (cs : List (Child E)) → g.place x ≡ tree r (suc h) → N x ≡ inner right cs
      → Kids o top g r h (g.low x) cs (g.high x)
  kids_here x r h right cs px e =
      let ok = S.inners x r h px in
      subst (λ (l : List (Child E)). Kids o top g r h (g.low x) l (g.high x))
      (inner_lists x r h right cs ok e) ok.kids_ok

  pub child_here : (x r h right : ℕ) (cs : List (Child E)) (c : Child E) → g.place x ≡ tree r (suc h)
      → N x ≡ inner right cs → In c cs → (g.place c.page ≡ tree r h) × (g.high c.page ≡ c.bound)
  child_here x r h right cs c px e i =
      let ok = kids_here x r h right cs px e in (
        (kid_place o top g r h (g.low x) (g.high x) cs (λ (y : ℕ) t. S.span y r h t) ok c i).0,
        kid_bound o top g r h (g.low x) (g.high x) cs ok c i,
      )

  -- a page whose parent names a child is one above it
  pub parent_here : (x r h s i right : ℕ) (cs : List (Child E)) (c : Child E) → g.place x ≡ tree s (suc i)
      → N x ≡ inner right cs → In c cs → g.place c.page ≡ tree r h
      → (g.place x ≡ tree r (suc h)) × (g.high c.page ≡ c.bound)
  parent_here x r h s i right cs c px e j pc =
      let k = child_here x s i right cs c px e j in
      let same = same_tree s r i h (sym k.0 ∙ pc) in
      (px ∙ ap₂ tree same.0 (ap suc same.1), k.1)

  -- a page whose bounds are the least and the greatest is alone at its height
  pub only_wide : (bottom : E) → ((x : E) → o.less x bottom → ⊥) → ((x : E) → AtMost o top x top) → (r s h : ℕ)
      → g.place r ≡ tree s h → g.low r ≡ bottom → g.high r ≡ top → (x : ℕ) → g.place x ≡ tree s h → x ≡ r
  only_wide bottom lowest least r s h pr lr hr x px = one_page x r s h px pr (λ m. elim m [
    | inl a ↦ lowest (g.low x)
        (less_at_most o top _ _ _ (S.span x s h px) (subst (λ (z : E). AtMost o top (g.high x) z) lr a))
    | inr a ↦ o.irrefl top (at_most_less o top _ _ _ (subst (λ (z : E). AtMost o top z (g.low x)) hr a)
        (less_at_most o top _ _ _ (S.span x s h px) (least (g.high x))))
  ])

  -- and has no right link
  pub wide_right : (bottom : E) → o.less bottom top → (r s h : ℕ) → g.low r ≡ bottom → g.high r ≡ top
      → ((x : ℕ) → g.place x ≡ tree s h → x ≡ r) → (right : ℕ) → RightOk o top g s h r right → right ≡ 0
  wide_right bottom wide r s h lr hr only right (inl z) = z.0
  wide_right bottom wide r s h lr hr only right (inr z) =
      let low_is_top : bottom ≡ top = sym lr ∙ ap g.low (sym (only right z.1)) ∙ z.2 ∙ hr in
      absurd (o.irrefl top (subst (λ (t : E). o.less t top) low_is_top wide))

  -- the right link of a page, as its node shows it
  pub right_here : (x r h : ℕ) → g.place x ≡ tree r h → RightOk o top g r h x (right_in (N x))
  right_here x r zero e = let ok = S.leaves x r e in
      subst (RightOk o top g r 0 x) (sym (ap right_in ok.node)) ok.right_ok
  right_here x r (suc h) e =
      let ok = S.inners x r h e in subst (RightOk o top g r (suc h) x) (sym (ap right_in ok.node)) ok.right_ok

  -- a page is the child of one inner page
  pub one_parent : (x q r r' h h' : ℕ) (kx : InnerOk o top N g x r' h') (kq : InnerOk o top N g q r h)
      → g.place x ≡ tree r' (suc h') → g.place q ≡ tree r (suc h)
      → (c d : Child E) → In c kx.kids → In d kq.kids → c.page ≡ d.page → x ≡ q
  one_parent x q r r' h h' kx kq px pq c d i j e =
      let a = kid_of x r' h' kx c i in
      let b = kid_of q r h kq d j in
      let same = same_tree r' r h' h (sym a.0 ∙ ap g.place e ∙ b.0) in
      one_round x q d.page r (suc h) h (px ∙ ap₂ tree same.0 (ap suc same.1)) pq b.0
      (subst (λ (z : ℕ). AtMost o top (g.low x) (g.low z) × AtMost o top (g.high z) (g.high x)) e (a.1, a.2))
      (b.1, b.2)

  -- the child for a key
  pub child_for : (r h : ℕ) (k lo hi : E) (cs : List (Child E)) → Kids o top g r h lo cs hi → o.less lo k
      → AtMost o top k hi → (c : Child E) × In c cs × (g.place c.page ≡ tree r h) × o.less (g.low c.page) k
      × AtMost o top k c.bound
  child_for r h k lo hi [] e l m = absurd (o.irrefl k (at_most_less o top k hi k m (subst (λ (x : E). o.less x k) e l)))
  child_for r h k lo hi (c ∷ cs) ok l m = elim (o.total k c.bound) [
    | inl b ↦ (c, inl refl, ok.0, subst (λ (x : E). o.less x k) (sym ok.1) l, inl b)
    | inr (inl e) ↦ (c, inl refl, ok.0, subst (λ (x : E). o.less x k) (sym ok.1) l, inr e)
    | inr (inr b) ↦ let found = child_for r h k c.bound hi cs ok.3 b m in
        (found.0, inr found.1, found.2, found.3, found.4)
  ]

  -- going right keeps the low bound below the key
  pub right_below : (p r h right : ℕ) (k : E) → RightOk o top g r h p right → o.less (g.high p) k → AtMost o top k top
      → (g.place right ≡ tree r h) × o.less (g.low right) k
  right_below p r h right k (inl e) l m =
      absurd (o.irrefl k (at_most_less o top k top k m (subst (λ (x : E). o.less x k) e.1 l)))
  right_below p r h right k (inr e) l m = (e.1, subst (λ (x : E). o.less x k) (sym e.2) l)
