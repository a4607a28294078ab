-- The way down from a root to each page that covers a key.
use Rattle.std.proofs.Common.{◌≡◌, ◌+◌, ◌-◌, ℕ, zero, suc, List, [], ◌∷◌, ◌++◌, map, refl, sym, ap, ap₂, subst, ◌∙◌}
use Rattle.std.proofs.Common.{inl, inr, arith}
use Rattle.core_state.specs.Log.{In}
use Rattle.core_state.specs.Trees.Nodes.{Order, Child, Node, TreeGhost, AtMost, Kids, Sane}
use Rattle.core_state.specs.Trees.Nodes.Node.{inner}
use Rattle.core_state.specs.Trees.Nodes.TreePlace.{tree}
use Rattle.core_state.proofs.Trees.Order.{at_most_less, at_most_trans}
use Rattle.core_state.proofs.Trees.Kids.{kid_bound, kids_order}
use Rattle.core_state.proofs.Trees.Find.{kid_of}
use Rattle.core_state.proofs.Trees.Below.{children, as_child, Rooted}

-- from page p down to page q, each time to the first child whose bound isn't below the key
pub data Down {E : Type 0} (o : Order E) (top : E) (N : ℕ → Node E) (k : E) (q : ℕ) : ℕ → Type 0 where
  here : Down o top N k q q
  down : {p : ℕ} (right : ℕ) (front back : List (Child E)) (c : Child E) → N p ≡ inner right (front ++ c ∷ back)
      → ((b : Child E) → In b front → o.less b.bound k) → AtMost o top k c.bound → Down o top N k q c.page
      → Down o top N k q p

-- a list is cut at each of its members
pub cut_at : {A : Type 0} (x : A) (xs : List A) → In x xs → (front : List A) × (back : List A)
    × (xs ≡ front ++ x ∷ back)
cut_at x [] m = absurd m
cut_at x (y ∷ ys) (inl e) = ([], ys, ap (λ z. z ∷ ys) (sym e))
cut_at x (y ∷ ys) (inr m) = let c = cut_at x ys m in (y ∷ c.0, c.1, ap (λ l. y ∷ l) c.2)

-- so is a list whose images are cut
pub cut_map : {A B : Type 0} (f : A → B) (xs : List A) (front : List B) (z : B) (back : List B)
    → map f xs ≡ front ++ z ∷ back
    → (ys : List A) × (x : A) × (zs : List A) × (xs ≡ ys ++ x ∷ zs) × (map f ys ≡ front) × (f x ≡ z)
cut_map f [] [] z back e = absurd (cc)
cut_map f [] (w ∷ ws) z back e = absurd (cc)
cut_map f (x ∷ xs) [] z back e = ([], x, xs, refl, refl, first (f x) z (map f xs) back e)
  where
    first : {B : Type 0} (a b : B) (us vs : List B) → a ∷ us ≡ b ∷ vs → a ≡ b
    first a b us vs e = cc
cut_map f (x ∷ xs) (w ∷ ws) z back e =
    let both = parts (f x) w (map f xs) (ws ++ z ∷ back) e in
    let c = cut_map f xs ws z back both.1 in
    (x ∷ c.0, c.1, c.2, ap (λ l. x ∷ l) c.3, ap₂ (λ b l. b ∷ l) both.0 c.4, c.5)
  where
    parts : {B : Type 0} (a b : B) (us vs : List B) → a ∷ us ≡ b ∷ vs → (a ≡ b) × (us ≡ vs)
    parts a b us vs e = (cc, cc)

module _ {E : Type 0} (o : Order E) (top : E) (N : ℕ → Node E) (g : TreeGhost E) (S : Sane o top N g) (k : E)
    (q : ℕ) where
  -- one step up, from a child that covers the key
  up_one : (x y r h : ℕ) → g.place y ≡ tree r (suc h) → In x (children (N y)) → o.less (g.low x) k
      → AtMost o top k (g.high x) → Down o top N k q x
      → Down o top N k q y × o.less (g.low y) k × AtMost o top k (g.high y)
  up_one x y r h at_y i low high rest =
      let ok = S.inners y r h at_y in
      let c = as_child x ok.kids (subst (λ (z : Node E). In x (children z)) ok.node i) in
      let place = kid_of o top N g S y r h ok c.0 c.1 in
      let cut = cut_at c.0 ok.kids c.1 in
      let bound : g.high x ≡ c.0.bound = ap g.high (sym c.2)
      ∙ kid_bound o top g r h (g.low y) (g.high y) ok.kids ok.kids_ok c.0 c.1 in (
        Down.down ok.right cut.0 cut.1 c.0 (ok.node ∙ ap (inner ok.right) cut.2)
            (λ b m. at_most_less o top b.bound (g.low c.0.page) k
            (kids_order o top g r h (g.low y) (g.high y) cut.0 c.0 cut.1 (λ (z : ℕ) t. S.span z r h t)
            (subst (λ (l : List (Child E)). Kids o top g r h (g.low y) l (g.high y)) cut.2 ok.kids_ok) b m)
            (subst (λ (z : ℕ). o.less (g.low z) k) (sym c.2) low))
            (subst (λ (z : E). AtMost o top k z) bound high) (subst (λ (z : ℕ). Down o top N k q z) (sym c.2) rest),
        at_most_less o top (g.low y) (g.low x) k (subst (λ (z : ℕ). AtMost o top (g.low y) (g.low z)) c.2 place.1) low,
        at_most_trans o top k (g.high x) (g.high y) high
            (subst (λ (z : ℕ). AtMost o top (g.high z) (g.high y)) c.2 place.2),
      )

  climb : (d r t x h : ℕ) → Rooted N g r t → h + d ≡ t → g.place x ≡ tree r h → o.less (g.low x) k
      → AtMost o top k (g.high x) → Down o top N k q x → Down o top N k q r
  climb zero r t x h R e at low high rest = elim (R.parent x h at) [
    | inl z ↦ subst (λ (y : ℕ). Down o top N k q y) z rest
    | inr y ↦ let bound = R.highest y.0 (suc h) y.1 in absurd (omega (arith, bound, e))
  ]
  climb (suc d) r t x h R e at low high rest = elim (R.parent x h at) [
    | inl z ↦ subst (λ (y : ℕ). Down o top N k q y) z rest
    | inr y ↦ let u = up_one x y.0 r h y.1 y.2 low high rest in
        climb d r t y.0 (suc h) R (omega (arith, e)) y.1 u.1 u.2 u.0
  ]

  -- the page that covers the key is reached from its root
  pub reached : (r t h : ℕ) → Rooted N g r t → g.place q ≡ tree r h → o.less (g.low q) k → AtMost o top k (g.high q)
      → Down o top N k q r
  reached r t h R at low high =
      let bound = R.highest q h at in
      climb (t - h) r t q h R (omega (arith, bound)) at low high Down.here
