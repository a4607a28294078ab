-- A walk over rising moments along a posting tree meets each item that stays in the tree.
use Rattle.std.proofs.Common.{◌≡◌, ◌≢◌, ◌⊎◌, ◌<◌, ◌≤◌, ◌+◌, ◌-◌, ℕ, zero, suc, List, [], ◌∷◌, refl, sym, ap, subst, ◌∙◌}
use Rattle.std.proofs.Common.{inl, inr, arith}
use Rattle.core_state.specs.Log.{In}
use Rattle.core_state.specs.Trees.Nodes.{Order, Child, Node, TreeGhost, AtMost, RightOk, Kids, LeafOk, InnerOk, LeftOk}
use Rattle.core_state.specs.Trees.Nodes.{Sane}
use Rattle.core_state.specs.Trees.Nodes.Node.{other, leaf, inner, gone}
use Rattle.core_state.specs.Trees.Nodes.TreePlace.{none, tree, left}
use Rattle.core_state.proofs.Trees.Order.{at_most_less}
use Rattle.core_state.proofs.Trees.Find.{one_cover}

pub record Read : Type 0 where
  pub time : ℕ
  pub page : ℕ

abbrev pub first_page : {E : Type 0} → List (Child E) → ℕ
first_page [] = 0
first_page (c ∷ cs) = c.page

abbrev pub along : {E : Type 0} → Node E → ℕ
along other = 0
along (leaf right high keys) = right
along (inner right kids) = first_page kids
along (gone right) = right

abbrev pub keys_of : {E : Type 0} → Node E → List E
keys_of other = []
keys_of (leaf right high keys) = keys
keys_of (inner right kids) = []
keys_of (gone right) = []

abbrev pub Follows : {E : Type 0} → (ℕ → ℕ → Node E) → ℕ → List Read → Type 0
Follows N p [] = p ≡ 0
Follows N p (x ∷ xs) = (p ≢ 0) × (x.page ≡ p) × Follows N (along (N x.time x.page)) xs

abbrev pub Rising : ℕ → ℕ → List Read → Type 0
Rising t end [] = t ≤ end
Rising t end (x ∷ xs) = (t ≤ x.time) × Rising x.time end xs

abbrev pub IsIn : {E : Type 0} → TreeGhost E → ℕ → ℕ → Type 0
IsIn g r p = ((h : ℕ) × (g.place p ≡ tree r h)) ⊎ (g.place p ≡ left r)

pub rising_end : (t end : ℕ) (xs : List Read) → Rising t end xs → t ≤ end
rising_end t end [] h = h
rising_end t end (x ∷ xs) h = omega (arith, h.0, rising_end x.time end xs h.1)

module _ {E : Type 0} (o : Order E) (top : E) (least : (x : E) → AtMost o top x top) (N : ℕ → ℕ → Node E)
    (g : ℕ → TreeGhost E) (start end r : ℕ) (i : E)
    (sane : (t : ℕ) → start ≤ t → t ≤ end → Sane o top (N t) (g t))
    (nil : (t : ℕ) → start ≤ t → t ≤ end → (g t).place 0 ≡ none)
    (stays : (t : ℕ) (p : ℕ) → start ≤ t → t < end → IsIn (g t) r p → IsIn (g (t + 1)) r p
    × AtMost o top ((g (t + 1)).low p) ((g t).low p))
    (there : (t : ℕ) → start ≤ t → t ≤ end → (q : ℕ) × ((g t).place q ≡ tree r 0) × In i (keys_of (N t q)))
  where
    pub record Before (t p : ℕ) : Type 0 where
      pub inside : IsIn (g t) r p
      pub below : o.less ((g t).low p) i

    carry : (d t p : ℕ) → start ≤ t → t + d ≤ end → Before t p → Before (t + d) p
    carry zero t p a b h = subst (λ (s : ℕ). Before s p) (omega arith) h
    carry (suc d) t p a b h =
        let once = stays t p a (omega arith) h.inside in
        let next : Before (t + 1) p = record { inside = once.0; below = at_most_less o top _ _ i once.1 h.below } in
        subst (λ (s : ℕ). Before s p) (omega arith) (carry d (t + 1) p (omega arith) (omega arith) next)

    carry_to : (t s p : ℕ) → start ≤ t → t ≤ s → s ≤ end → Before t p → Before s p
    carry_to t s p a b c h = subst (λ (u : ℕ). Before u p) (omega arith) (carry (s - t) t p a (omega arith) h)

    abbrev pub Met : List Read → Type 0
    Met xs = (x : Read) × In x xs × In i (keys_of (N x.time x.page))

    -- what a read page says: the item is on it, or lies before the next page too
    step : (t p : ℕ) → start ≤ t → t ≤ end → Before t p → In i (keys_of (N t p)) ⊎ Before t (along (N t p))
    step t p a b h = elim h.inside [
      | inl (zero, e) ↦ on_leaf ((sane t a b).leaves p r e) e
      | inl (suc k, e) ↦ on_inner k ((sane t a b).inners p r k e) e ((sane t a b).span p r (suc k) e)
      | inr e ↦ inr (on_left ((sane t a b).lefts p r e))
    ]
      where
        on_left : LeftOk o top (N t) (g t) p r → Before t (along (N t p))
        on_left l = subst (λ (z : Node E). Before t (along z)) (sym l.node) (record {
          inside = elim l.leads [ inl z ↦ inl (0, z) | inr z ↦ inr z ];
          below = at_most_less o top _ _ i l.lower h.below;
        })

        first : (k : ℕ) (lo hi : E) (cs : List (Child E)) → Kids o top (g t) r k lo cs hi → o.less lo hi
            → ((g t).place (first_page cs) ≡ tree r k) × ((g t).low (first_page cs) ≡ lo)
        first k lo hi [] same l = absurd (o.irrefl hi (subst (λ (x : E). o.less x hi) same l))
        first k lo hi (c ∷ cs) ok l = (ok.0, ok.1)

        on_inner : (k : ℕ) → InnerOk o top (N t) (g t) p r k → (g t).place p ≡ tree r (suc k)
            → o.less ((g t).low p) ((g t).high p) → In i (keys_of (N t p)) ⊎ Before t (along (N t p))
        on_inner k l e s =
            let f = first k _ _ l.kids l.kids_ok s in
            inr (subst (λ (z : Node E). Before t (along z)) (sym l.node)
            (record { inside = inl (k, f.0); below = subst (λ (x : E). o.less x i) (sym f.1) h.below }))

        going_right : (right : ℕ) → RightOk o top (g t) r 0 p right → o.less ((g t).high p) i → Before t right
        going_right right (inl z) l =
            absurd (o.irrefl i (at_most_less o top i top i (least i) (subst (λ (x : E). o.less x i) z.1 l)))
        going_right right (inr z) l =
            record { inside = inl (0, z.1); below = subst (λ (x : E). o.less x i) (sym z.2) l }

        here : (q : ℕ) → (g t).place q ≡ tree r 0 → In i (keys_of (N t q)) → (g t).place p ≡ tree r 0
            → AtMost o top i ((g t).high p) → In i (keys_of (N t p))
        here q at on e m =
            let lq = (sane t a b).leaves q r at in
            let w = lq.within i (subst (λ (z : Node E). In i (keys_of z)) lq.node on) in
            subst (λ (z : ℕ). In i (keys_of (N t z)))
            (one_cover o top (N t) (g t) (sane t a b) q p r 0 i at e w.0 w.1 h.below m) on

        on_leaf : LeafOk o top (N t) (g t) p r → (g t).place p ≡ tree r 0 → In i (keys_of (N t p))
            ⊎ Before t (along (N t p))
        on_leaf l e = elim (o.total i ((g t).high p)) [
          | inl m ↦ let q = there t a b in inl (here q.0 q.1 q.2 e (inl m))
          | inr (inl m) ↦ let q = there t a b in inl (here q.0 q.1 q.2 e (inr m))
          | inr (inr m) ↦ inr
              (subst (λ (z : Node E). Before t (along z)) (sym l.node) (going_right l.right l.right_ok m))
        ]

    pub meets : (t p : ℕ) (xs : List Read) → start ≤ t → Rising t end xs → Follows N p xs → Before t p → Met xs
    meets t p [] a rise end_at h = elim h.inside [
      | inl (k, e) ↦ absurd (nil_tree k (sym e ∙ ap (g t).place end_at ∙ nil t a rise))
      | inr e ↦ absurd (nil_left (sym e ∙ ap (g t).place end_at ∙ nil t a rise))
    ]
      where
        nil_tree : (k : ℕ) → tree r k ≡ none → ⊥
        nil_tree k e = cc

        nil_left : left r ≡ none → ⊥
        nil_left e = cc
    meets t p (x ∷ xs) a rise f h =
        let late : start ≤ x.time = omega (arith, rise.0) in
        let early : x.time ≤ end = rising_end x.time end xs rise.1 in
        let now : Before x.time x.page =
        subst (λ (z : ℕ). Before x.time z) (sym f.1) (carry_to t x.time p a rise.0 early h) in
        elim (step x.time x.page late early now) [
          | inl on ↦ (x, inl refl, on)
          | inr next ↦ let rest = meets x.time (along (N x.time x.page)) xs late rise.1 f.2 next in
              (rest.0, inr rest.1, rest.2)
        ]
