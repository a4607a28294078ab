-- A walk over rising moments down the entry tree and along its leaves reads each key that fits, where it is then.
use Rattle.std.proofs.Common.{◌≡◌, ◌≢◌, ◌⊎◌, ◌<◌, ◌≤◌, ◌+◌, ◌-◌, ℕ, zero, suc, Bool, true, false, cond, List, [], ◌∷◌}
use Rattle.std.proofs.Common.{◌++◌, refl, sym, ap, subst, ◌∙◌, inl, inr, arith}
use Rattle.core_state.specs.Log.{In}
use Rattle.core_state.specs.Trees.Nodes.{Order, Child, Node, TreeGhost, AtMost, RightOk, Kids, LeafOk, InnerOk, Sane}
use Rattle.core_state.specs.Trees.Nodes.Node.{other, leaf, inner, gone}
use Rattle.core_state.specs.Trees.Nodes.TreePlace.{none, tree}
use Rattle.core_state.proofs.Trees.Order.{tree_not_none, less_at_most, at_most_less}
use Rattle.core_state.proofs.Trees.Find.{one_cover}
use Rattle.core_state.proofs.Trees.Walk.{Read, Rising, rising_end}

-- a leaf, and the posting trees of those of its entries that fit, as they were read
pub record LeafRead : Type 0 where
  pub leaf : Read
  pub trees : List (List Read)

abbrev pub tree_reads : List (List Read) → List Read
tree_reads [] = []
tree_reads (t ∷ ts) = t ++ tree_reads ts

abbrev pub leaf_reads : List LeafRead → List Read
leaf_reads [] = []
leaf_reads (l ∷ ls) = l.leaf ∷ (tree_reads l.trees ++ leaf_reads ls)

pub rising_less : (s t end : ℕ) (xs : List Read) → s ≤ t → Rising t end xs → Rising s end xs
rising_less s t end [] l h = omega (arith, l, h)
rising_less s t end (x ∷ xs) l h = (omega (arith, l, h.0), h.1)

pub rising_front : (t end : ℕ) (xs ys : List Read) → Rising t end (xs ++ ys) → Rising t end xs
rising_front t end [] ys h = rising_end t end ys h
rising_front t end (x ∷ xs) ys h = (h.0, rising_front x.time end xs ys h.1)

pub rising_back : (t end : ℕ) (xs ys : List Read) → Rising t end (xs ++ ys) → Rising t end ys
rising_back t end [] ys h = h
rising_back t end (x ∷ xs) ys h = rising_less t x.time end ys h.0 (rising_back x.time end xs ys h.1)

pub known : (b : Bool) → (b ≡ true) ⊎ (b ≡ false)
known true = inl refl
known false = inr refl

-- the next page, as the page is read: upto k b says whether k may be below the bound b, goes whether a walk goes on
-- after the high key
module _ {E : Type 0} (upto : E → E → Bool) where
  abbrev pub child_of : ℕ → E → List (Child E) → ℕ
  child_of right k [] = right
  child_of right k (c ∷ cs) = cond (upto k c.bound) c.page (child_of right k cs)

  abbrev pub toward : E → Node E → ℕ
  toward k other = 0
  toward k (leaf right high keys) = cond (upto k high) 0 right
  toward k (inner right kids) = child_of right k kids
  toward k (gone right) = 0

  abbrev pub LeadTo : (ℕ → ℕ → Node E) → E → ℕ → List Read → ℕ → Type 0
  LeadTo N k p [] q = p ≡ q
  LeadTo N k p (x ∷ xs) q = (x.page ≡ p) × (toward k (N x.time x.page) ≢ 0)
      × LeadTo N k (toward k (N x.time x.page)) xs q

abbrev pub beyond : {E : Type 0} → (E → Bool) → Node E → ℕ
beyond goes other = 0
beyond goes (leaf right high keys) = cond (goes high) right 0
beyond goes (inner right kids) = 0
beyond goes (gone right) = 0

abbrev pub AreLeaves : {E : Type 0} → (E → Bool) → (ℕ → ℕ → Node E) → ℕ → List LeafRead → Type 0
AreLeaves goes N p [] = p ≡ 0
AreLeaves goes N p (l ∷ ls) = (p ≢ 0) × (l.leaf.page ≡ p)
    × AreLeaves goes N (beyond goes (N l.leaf.time l.leaf.page)) ls

-- x is one of the keys that are sought from k on; Here t p: what is sought under x is on the leaf p at t
module _ {E : Type 0} (o : Order E) (bottom top : E) (least : (x : E) → AtMost o top x top) (upto : E → E → Bool)
    (is_upto : (k b : E) → upto k b ≡ true → AtMost o top k b) (not_upto : (k b : E) → upto k b ≡ false → o.less b k)
    (N : ℕ → ℕ → Node E) (g : ℕ → TreeGhost E) (start end r : ℕ) (k x : E) (from : AtMost o top k x)
    (goes : E → Bool) (goes_on : (h : E) → AtMost o top k h → o.less h x → goes h ≡ true)
    (sane : (t : ℕ) → start ≤ t → t ≤ end → Sane o top (N t) (g t))
    (nil : (t : ℕ) → start ≤ t → t ≤ end → (g t).place 0 ≡ none)
    (live : (t p h : ℕ) → start ≤ t → t < end → (g t).place p ≡ tree r h
    → ((h' : ℕ) × ((g (t + 1)).place p ≡ tree r h'))
    × ((g (t + 1)).low p ≡ (g t).low p))
    (level : (t p h : ℕ) → start ≤ t → t < end → (g t).place p ≡ tree r h → o.less bottom ((g t).low p)
    → ((g (t + 1)).place p ≡ tree r h) × ((g (t + 1)).low p ≡ (g t).low p))
    (Here : ℕ → ℕ → Type 0)
    (there : (t : ℕ) → start ≤ t → t ≤ end → (q : ℕ) × ((g t).place q ≡ tree r 0) × o.less ((g t).low q) x
    × AtMost o top x ((g t).high q) × Here t q)
  where
    -- the page to be read on the way down
    pub record Above (t p : ℕ) : Type 0 where
      pub height : ℕ
      pub at : (g t).place p ≡ tree r height
      pub low : o.less ((g t).low p) k

    -- the page to be read after the key's leaf
    pub record Ahead (t p : ℕ) : Type 0 where
      pub at : (g t).place p ≡ tree r 0
      pub inner_low : o.less bottom ((g t).low p)
      pub from_key : AtMost o top k ((g t).low p)
      pub low : o.less ((g t).low p) x

    above_carry : (d t p : ℕ) → start ≤ t → t + d ≤ end → Above t p → Above (t + d) p
    above_carry zero t p a b h = subst (λ (s : ℕ). Above s p) (omega arith) h
    above_carry (suc d) t p a b h =
        let once = live t p h.height a (omega arith) h.at in
        let next : Above (t + 1) p =
        record { height = once.0.0; at = once.0.1; low = subst (λ (y : E). o.less y k) (sym once.1) h.low } in
        subst (λ (s : ℕ). Above s p) (omega arith) (above_carry d (t + 1) p (omega arith) (omega arith) next)

    above_to : (t s p : ℕ) → start ≤ t → t ≤ s → s ≤ end → Above t p → Above s p
    above_to t s p a b c h = subst (λ (u : ℕ). Above u p) (omega arith) (above_carry (s - t) t p a (omega arith) h)

    ahead_carry : (d t p : ℕ) → start ≤ t → t + d ≤ end → Ahead t p → Ahead (t + d) p
    ahead_carry zero t p a b h = subst (λ (s : ℕ). Ahead s p) (omega arith) h
    ahead_carry (suc d) t p a b h =
        let once = level t p 0 a (omega arith) h.at h.inner_low in
        let next : Ahead (t + 1) p = record {
          at = once.0;
          inner_low = subst (λ (y : E). o.less bottom y) (sym once.1) h.inner_low;
          from_key = subst (λ (y : E). AtMost o top k y) (sym once.1) h.from_key;
          low = subst (λ (y : E). o.less y x) (sym once.1) h.low;
        } in
        subst (λ (s : ℕ). Ahead s p) (omega arith) (ahead_carry d (t + 1) p (omega arith) (omega arith) next)

    ahead_to : (t s p : ℕ) → start ≤ t → t ≤ s → s ≤ end → Ahead t p → Ahead s p
    ahead_to t s p a b c h = subst (λ (u : ℕ). Ahead u p) (omega arith) (ahead_carry (s - t) t p a (omega arith) h)

    no_zero : (t h : ℕ) → start ≤ t → t ≤ end → (g t).place 0 ≡ tree r h → ⊥
    no_zero t h a b e = tree_not_none r h (sym e ∙ nil t a b)

    -- right of a page whose high bound is below y
    go_right : (t p h right : ℕ) (y : E) → RightOk o top (g t) r h p right → o.less ((g t).high p) y
        → ((g t).place right ≡ tree r h) × ((g t).low right ≡ (g t).high p) × (right ≢ 0)
    go_right t p h right y (inl z) l =
        absurd (o.irrefl y (at_most_less o top y top y (least y) (subst (λ (u : E). o.less u y) z.1 l)))
    go_right t p h right y (inr z) l = (z.1, z.2, z.0)

    -- the child that is read next, or the right link
    child_or_right : (t h right : ℕ) (lo hi : E) (cs : List (Child E)) → Kids o top (g t) r h lo cs hi → o.less lo k
        → (((g t).place (child_of upto right k cs) ≡ tree r h) × o.less ((g t).low (child_of upto right k cs)) k)
        ⊎ ((child_of upto right k cs ≡ right) × o.less hi k)
    child_or_right t h right lo hi [] ok l = inr (refl, subst (λ (y : E). o.less y k) ok l)
    child_or_right t h right lo hi (c ∷ cs) ok l = elim (known (upto k c.bound)) [
      | inl e ↦
          let same : cond (upto k c.bound) c.page (child_of upto right k cs) ≡ c.page =
          ap (λ (b : Bool). cond b c.page (child_of upto right k cs)) e in
          inl (ap (g t).place same ∙ ok.0, subst (λ (y : E). o.less y k) (sym (ap (g t).low same ∙ ok.1)) l)
      | inr e ↦
          let same : cond (upto k c.bound) c.page (child_of upto right k cs) ≡ child_of upto right k cs =
          ap (λ (b : Bool). cond b c.page (child_of upto right k cs)) e in
          elim (child_or_right t h right c.bound hi cs ok.3 (not_upto k c.bound e)) [
            | inl f ↦ inl (ap (g t).place same ∙ f.0, subst (λ (y : E). o.less y k) (sym (ap (g t).low same)) f.1)
            | inr f ↦ inr (same ∙ f.0, f.1)
          ]
    ]

    -- a page on the way down names the next one, or it is the key's leaf
    pub down_step : (t p : ℕ) → start ≤ t → t ≤ end → Above t p → Above t (toward upto k (N t p))
        ⊎ ((toward upto k (N t p) ≡ 0) × ((g t).place p ≡ tree r 0) × AtMost o top k ((g t).high p))
    down_step t p a b h = go h.height h.at
      where
        in_inner : (i : ℕ) → (g t).place p ≡ tree r (suc i) → InnerOk o top (N t) (g t) p r i
            → Above t (toward upto k (N t p))
        in_inner i at l = subst (λ (z : Node E). Above t (toward upto k z)) (sym l.node)
            (elim (child_or_right t i l.right _ _ l.kids l.kids_ok h.low) [
              | inl c ↦ record { height = i; at = c.0; low = c.1 }
              | inr c ↦ let rt = go_right t p (suc i) l.right k l.right_ok c.1 in
                  subst (λ (q : ℕ). Above t q) (sym c.0)
                  (record { height = suc i; at = rt.0; low = subst (λ (y : E). o.less y k) (sym rt.1) c.1 })
            ])

        on_leaf : (g t).place p ≡ tree r 0 → LeafOk o top (N t) (g t) p r → Above t (toward upto k (N t p))
            ⊎ ((toward upto k (N t p) ≡ 0) × ((g t).place p ≡ tree r 0) × AtMost o top k ((g t).high p))
        on_leaf at l = elim (known (upto k ((g t).high p))) [
          | inl e ↦ inr (ap (toward upto k) l.node ∙ ap (λ (z : Bool). cond z 0 l.right) e, at, is_upto k _ e)
          | inr e ↦
              let past = not_upto k _ e in
              let rt = go_right t p 0 l.right k l.right_ok past in
              let same : toward upto k (N t p) ≡ l.right = ap (toward upto k) l.node
              ∙ ap (λ (z : Bool). cond z 0 l.right) e in
              inl (subst (λ (q : ℕ). Above t q) (sym same)
              (record { height = 0; at = rt.0; low = subst (λ (y : E). o.less y k) (sym rt.1) past }))
        ]

        go : (i : ℕ) → (g t).place p ≡ tree r i → Above t (toward upto k (N t p))
            ⊎ ((toward upto k (N t p) ≡ 0) × ((g t).place p ≡ tree r 0) × AtMost o top k ((g t).high p))
        go zero at = on_leaf at ((sane t a b).leaves p r at)
        go (suc i) at = inl (in_inner i at ((sane t a b).inners p r i at))

    abbrev pub Found : List LeafRead → Type 0
    Found ls = (l : LeafRead) × In l ls × Here l.leaf.time l.leaf.page

    -- what a leaf says: x is on it, or lies before the next leaf too
    leaf_step : (t p : ℕ) → start ≤ t → t ≤ end → (g t).place p ≡ tree r 0 → o.less ((g t).low p) x
        → AtMost o top k ((g t).high p) → o.less bottom k → Here t p ⊎ Ahead t (beyond goes (N t p))
    leaf_step t p a b at low kh bk = elim (o.total x ((g t).high p)) [
      | inl m ↦ inl (here (inl m))
      | inr (inl m) ↦ inl (here (inr m))
      | inr (inr m) ↦ inr (further m ((sane t a b).leaves p r at))
    ]
      where
        here : AtMost o top x ((g t).high p) → Here t p
        here m = let q = there t a b in
            subst (λ (z : ℕ). Here t z) (one_cover o top (N t) (g t) (sane t a b) q.0 p r 0 x q.1 at q.2 q.3 low m) q.4

        further : o.less ((g t).high p) x → LeafOk o top (N t) (g t) p r → Ahead t (beyond goes (N t p))
        further m l =
            let rt = go_right t p 0 l.right x l.right_ok m in
            let same : beyond goes (N t p) ≡ l.right = ap (beyond goes) l.node
            ∙ ap (λ (z : Bool). cond z l.right 0) (goes_on _ kh m) in
            subst (λ (q : ℕ). Ahead t q) (sym same) (record {
              at = rt.0;
              inner_low = subst (λ (y : E). o.less bottom y) (sym rt.1) (less_at_most o top bottom k _ bk kh);
              from_key = subst (λ (y : E). AtMost o top k y) (sym rt.1) kh;
              low = subst (λ (y : E). o.less y x) (sym rt.1) m;
            })

    leaves_behind : (t p : ℕ) (ls : List LeafRead) → start ≤ t → o.less bottom k → Rising t end (leaf_reads ls)
        → AreLeaves goes N p ls → Ahead t p → Found ls
    leaves_behind t p [] a bk rise f h = absurd (no_zero t 0 a rise (ap (g t).place (sym f) ∙ h.at))
    leaves_behind t p (l ∷ ls) a bk rise f h =
        let s = l.leaf.time in
        let late : start ≤ s = omega (arith, rise.0) in
        let early : s ≤ end = rising_end s end (tree_reads l.trees ++ leaf_reads ls) rise.1 in
        let now : Ahead s l.leaf.page = subst (λ (z : ℕ). Ahead s z) (sym f.1) (ahead_to t s p a rise.0 early h) in
        let span = (sane s late early).span l.leaf.page r 0 now.at in
        elim (leaf_step s l.leaf.page late early now.at now.low (inl (at_most_less o top k _ _ now.from_key span)) bk) [
          | inl on ↦ (l, inl refl, on)
          | inr next ↦ let rest = leaves_behind s (beyond goes (N s l.leaf.page)) ls late bk
              (rising_back s end (tree_reads l.trees) (leaf_reads ls) rise.1) f.2 next in (rest.0, inr rest.1, rest.2)
        ]

    first_leaf : (t p : ℕ) (l : LeafRead) (ls : List LeafRead) → start ≤ t → o.less bottom k
        → Rising t end (leaf_reads (l ∷ ls)) → toward upto k (N l.leaf.time l.leaf.page) ≡ 0
        → AreLeaves goes N p (l ∷ ls)
        → Above t p → Found (l ∷ ls)
    first_leaf t p l ls a bk rise is_leaf f h =
        let s = l.leaf.time in
        let late : start ≤ s = omega (arith, rise.0) in
        let early : s ≤ end = rising_end s end (tree_reads l.trees ++ leaf_reads ls) rise.1 in
        let now : Above s l.leaf.page = subst (λ (z : ℕ). Above s z) (sym f.1) (above_to t s p a rise.0 early h) in
        elim (down_step s l.leaf.page late early now) [
          | inl next ↦ absurd (no_zero s next.height late early (ap (g s).place (sym is_leaf) ∙ next.at))
          | inr at ↦ elim (leaf_step s l.leaf.page late early at.1 (less_at_most o top _ k x now.low from) at.2 bk) [
            | inl on ↦ (l, inl refl, on)
            | inr next ↦ let rest = leaves_behind s (beyond goes (N s l.leaf.page)) ls late bk
                (rising_back s end (tree_reads l.trees) (leaf_reads ls) rise.1) f.2 next in (rest.0, inr rest.1, rest.2)
          ]
        ]

    way_down : (t p last : ℕ) (xs : List Read) (l : LeafRead) (ls : List LeafRead) → start ≤ t → o.less bottom k
        → Rising t end (xs ++ leaf_reads (l ∷ ls)) → LeadTo upto N k p xs last
        → toward upto k (N l.leaf.time l.leaf.page) ≡ 0 → AreLeaves goes N last (l ∷ ls) → Above t p → Found (l ∷ ls)
    way_down t p last [] l ls a bk rise lead is_leaf f h =
        first_leaf t last l ls a bk rise is_leaf f (subst (λ (z : ℕ). Above t z) lead h)
    way_down t p last (y ∷ ys) l ls a bk rise lead is_leaf f h =
        let s = y.time in
        let late : start ≤ s = omega (arith, rise.0) in
        let early : s ≤ end = rising_end s end (ys ++ leaf_reads (l ∷ ls)) rise.1 in
        let now : Above s y.page = subst (λ (z : ℕ). Above s z) (sym lead.0) (above_to t s p a rise.0 early h) in
        elim (down_step s y.page late early now) [
          | inl next ↦ way_down s (toward upto k (N s y.page)) last ys l ls late bk rise.1 lead.2 is_leaf f next
          | inr z ↦ absurd (lead.1 z.0)
        ]

    -- the law of the entry phase: some leaf was read at a moment at which what is sought under x was on it
    pub finds : (last : ℕ) (xs : List Read) (l : LeafRead) (ls : List LeafRead) (h : ℕ) → start ≤ end
        → (g start).place r ≡ tree r h → (g start).low r ≡ bottom → o.less bottom k
        → Rising start end (xs ++ leaf_reads (l ∷ ls)) → LeadTo upto N k r xs last
        → toward upto k (N l.leaf.time l.leaf.page) ≡ 0 → AreLeaves goes N last (l ∷ ls) → Found (l ∷ ls)
    finds last xs l ls h order at low bk rise lead is_leaf f =
        way_down start r last xs l ls (omega arith) bk rise lead is_leaf f
        (record { height = h; at = at; low = subst (λ (y : E). o.less y k) (sym low) bk })
