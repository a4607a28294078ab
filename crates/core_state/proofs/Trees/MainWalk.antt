-- The main part of a walk over real steps: an item that stays under a key that is sought is read under it.
use Rattle.std.proofs.Common.{◌≡◌, ◌≢◌, ◌⊎◌, ◌<◌, ◌≤◌, ◌+◌, ◌-◌, ℕ, zero, suc, Bool, true, false, List, [], ◌∷◌, ◌++◌}
use Rattle.std.proofs.Common.{refl, sym, ap, subst, subst₂, ◌∙◌, inl, inr, arith}
use Rattle.core_state.specs.Log.{In}
use Rattle.core_state.specs.Trees.Nodes.{Order, Child, Node, TreeGhost, AtMost, Kids, Sane}
use Rattle.core_state.specs.Trees.Nodes.TreePlace.{none, tree}
use Rattle.core_state.proofs.Trees.Walk.{Read, Rising, rising_end, Follows, along, IsIn, keys_of, meets}
use Rattle.core_state.proofs.Trees.Walk as walking
use Rattle.core_state.proofs.Trees.Steps.{Grows, Step, Keeps, OnTree, step_keeps, step_nil, step_stays, step_items}
use Rattle.core_state.proofs.Trees.Steps.{grows_live, grows_level}
use Rattle.core_state.proofs.Trees.EntryWalk.{LeafRead, tree_reads, leaf_reads, rising_front, rising_back, toward}
use Rattle.core_state.proofs.Trees.EntryWalk.{LeadTo, AreLeaves, finds}

-- the steps between two moments, from a sane beginning
pub record Run {E : Type 0} (o : Order E) (bottom top : E) (N : ℕ → ℕ → Node E) (g : ℕ → TreeGhost E)
    (start end : ℕ) : Type 0 where
  pub first : Sane o top (N start) (g start)
  pub zero_page : (g start).place 0 ≡ none
  pub steps : (t : ℕ) → start ≤ t → t < end → Step o bottom top (N t) (N (t + 1)) (g t) (g (t + 1))

-- the same of a tree that only grows
pub record GrowRun {E : Type 0} (o : Order E) (bottom top : E) (N : ℕ → ℕ → Node E) (g : ℕ → TreeGhost E)
    (start end : ℕ) : Type 0 where
  pub first : Sane o top (N start) (g start)
  pub zero_page : (g start).place 0 ≡ none
  pub steps : (t : ℕ) → start ≤ t → t < end → Grows o bottom top (N t) (N (t + 1)) (g t) (g (t + 1))

module _ {E : Type 0} (o : Order E) (bottom top : E) (least : (x : E) → AtMost o top x top) (wide : o.less bottom top)
    (N : ℕ → ℕ → Node E) (g : ℕ → TreeGhost E) (start end : ℕ) (R : Run o bottom top N g start end) where
  run_from : (d t : ℕ) → start + d ≡ t → t ≤ end → Sane o top (N t) (g t) × ((g t).place 0 ≡ none)
  run_from zero t e l = subst (λ (s : ℕ). Sane o top (N s) (g s) × ((g s).place 0 ≡ none)) (omega (arith, e))
      (R.first, R.zero_page)
  run_from (suc d) t e l =
      let before = run_from d (start + d) refl (omega arith) in
      let s = R.steps (start + d) (omega arith) (omega arith) in
      let after : Sane o top (N (start + d + 1)) (g (start + d + 1)) × ((g (start + d + 1)).place 0 ≡ none)
      = (
        step_keeps o bottom top least wide (N (start + d)) (N (start + d + 1)) (g (start + d)) before.0 before.1
            (g (start + d + 1)) s,
        step_nil o bottom top least wide (N (start + d)) (N (start + d + 1)) (g (start + d)) before.0 before.1
            (g (start + d + 1)) s,
      ) in
      subst (λ (u : ℕ). Sane o top (N u) (g u) × ((g u).place 0 ≡ none)) (omega arith) after

  pub run_sane : (t : ℕ) → start ≤ t → t ≤ end → Sane o top (N t) (g t) × ((g t).place 0 ≡ none)
  run_sane t a b = run_from (t - start) t (omega arith) b

  pub run_stays : (r t p : ℕ) → start ≤ t → t < end → IsIn (g t) r p → IsIn (g (t + 1)) r p
      × AtMost o top ((g (t + 1)).low p) ((g t).low p)
  run_stays r t p a b at = let s = run_sane t a (omega arith) in
      step_stays o bottom top least wide (N t) (N (t + 1)) (g t) s.0 s.1 (g (t + 1)) (R.steps t a b) p r at

  -- no step removes the item
  abbrev pub NeverRemoved : E → Type 0
  NeverRemoved i = (t : ℕ) (a : start ≤ t) (b : t < end)
      → Keeps o bottom top (N t) (N (t + 1)) (g t) (g (t + 1)) i (R.steps t a b)

  item_on : (d t r : ℕ) (i : E) → NeverRemoved i → start ≤ t → t + d ≤ end → OnTree (N t) (g t) r i
      → OnTree (N (t + d)) (g (t + d)) r i
  item_on zero t r i k a b on = subst (λ (s : ℕ). OnTree (N s) (g s) r i) (omega arith) on
  item_on (suc d) t r i k a b on =
      let s = run_sane t a (omega arith) in
      let next = step_items o bottom top least wide (N t) (N (t + 1)) (g t) s.0 s.1 (g (t + 1))
      (R.steps t a (omega arith)) r i (k t a (omega arith)) on in
      subst (λ (u : ℕ). OnTree (N u) (g u) r i) (omega arith) (item_on d (t + 1) r i k (omega arith) (omega arith) next)

  pub item_to : (t s r : ℕ) (i : E) → NeverRemoved i → start ≤ t → t ≤ s → s ≤ end → OnTree (N t) (g t) r i
      → OnTree (N s) (g s) r i
  item_to t s r i k a b c on =
      subst (λ (u : ℕ). OnTree (N u) (g u) r i) (omega arith) (item_on (s - t) t r i k a (omega arith) on)

  -- the law of the posting phase over real steps
  pub tree_meets : (t r h : ℕ) (i : E) (xs : List Read) → NeverRemoved i → start ≤ t → t ≤ end → OnTree (N t) (g t) r i
      → (g t).place r ≡ tree r h → o.less ((g t).low r) i
      → Rising t end xs → Follows N r xs → (x : Read) × In x xs × In i (keys_of (N x.time x.page))
  tree_meets t r h i xs k a b on at low rise f =
      meets o top least N g t end r i
      (λ s u v. (run_sane s (omega (arith, a, u)) v).0)
      (λ s u v. (run_sane s (omega (arith, a, u)) v).1)
      (λ s p u v e. run_stays r s p (omega (arith, a, u)) v e)
      (λ s u v. item_to t s r i k a u v on)
      t r xs (omega arith) rise f (record { inside = inl (h, at); below = low })

  -- a walk along a tree reads pages of that tree alone, live or left there
  inside_on : (d t r p : ℕ) → start ≤ t → t + d ≤ end → IsIn (g t) r p → IsIn (g (t + d)) r p
  inside_on zero t r p a b h = subst (λ (s : ℕ). IsIn (g s) r p) (omega arith) h
  inside_on (suc d) t r p a b h =
      subst (λ (s : ℕ). IsIn (g s) r p) (omega arith)
      (inside_on d (t + 1) r p (omega arith) (omega arith) (run_stays r t p a (omega arith) h).0)

  inside_to : (t s r p : ℕ) → start ≤ t → t ≤ s → s ≤ end → IsIn (g t) r p → IsIn (g s) r p
  inside_to t s r p a b c h =
      subst (λ (u : ℕ). IsIn (g u) r p) (omega arith) (inside_on (s - t) t r p a (omega arith) h)

  first_kid : (t r k : ℕ) (lo hi : E) (cs : List (Child E)) → Kids o top (g t) r k lo cs hi → o.less lo hi
      → (g t).place (walking.first_page cs) ≡ tree r k
  first_kid t r k lo hi [] same l = absurd (o.irrefl hi (subst (λ (x : E). o.less x hi) same l))
  first_kid t r k lo hi (c ∷ cs) ok l = ok.0

  inside_next : (t r p : ℕ) → start ≤ t → t ≤ end → IsIn (g t) r p → (along (N t p) ≡ 0) ⊎ IsIn (g t) r (along (N t p))
  inside_next t r p a b (inl (zero, e)) =
      let l = (run_sane t a b).0.leaves p r e in
      subst (λ (z : Node E). (along z ≡ 0) ⊎ IsIn (g t) r (along z)) (sym l.node)
      (elim l.right_ok [ inl z ↦ inl z.0 | inr z ↦ inr (inl (0, z.1)) ])
  inside_next t r p a b (inl (suc k, e)) =
      let S = (run_sane t a b).0 in
      let l = S.inners p r k e in
      inr (subst (λ (z : Node E). IsIn (g t) r (along z)) (sym l.node)
      (inl (k, first_kid t r k _ _ l.kids l.kids_ok (S.span p r (suc k) e))))
  inside_next t r p a b (inr e) =
      let l = (run_sane t a b).0.lefts p r e in
      inr (subst (λ (z : Node E). IsIn (g t) r (along z)) (sym l.node)
      (elim l.leads [ inl z ↦ inl (0, z) | inr z ↦ inr z ]))

  inside_there : (t r p : ℕ) → p ≢ 0 → (p ≡ 0) ⊎ IsIn (g t) r p → IsIn (g t) r p
  inside_there t r p n (inl e) = absurd (n e)
  inside_there t r p n (inr h) = h

  pub tree_inside : (t r p : ℕ) (xs : List Read) → start ≤ t → (p ≡ 0) ⊎ IsIn (g t) r p → Rising t end xs
      → Follows N p xs → (x : Read) → In x xs → IsIn (g x.time) r x.page
  tree_inside t r p [] a h rise f x m = absurd m
  tree_inside t r p (y ∷ ys) a h rise f x m =
      let late : start ≤ y.time = omega (arith, a, rise.0) in
      let early : y.time ≤ end = rising_end y.time end ys rise.1 in
      let now : IsIn (g y.time) r y.page =
      subst (λ (z : ℕ). IsIn (g y.time) r z) (sym f.1)
      (inside_to t y.time r p a rise.0 early (inside_there t r p f.0 h)) in
      elim m [
        | inl e ↦ subst (λ (z : Read). IsIn (g z.time) r z.page) (sym e) now
        | inr n ↦ tree_inside y.time r (along (N y.time y.page)) ys late
            (inside_next y.time r y.page late early now) rise.1 f.2 x n
      ]

pub data Postings (I : Type 0) : Type 0 where
  inline : List I → Postings I
  root : ℕ → Postings I

pub record Entry (E I : Type 0) : Type 0 where
  pub key : E
  pub postings : Postings I

-- the posting trees of the entries that fit, as they were read
abbrev pub Branch : {I : Type 0} → Bool → Postings I → (ℕ → ℕ → Node I) → (List (List Read) → Type 0) → List (List Read)
    → Type 0
Branch true (root r) NP rest ts = (t : List Read) × (ts' : List (List Read)) × (ts ≡ t ∷ ts') × Follows NP r t
    × rest ts'
Branch b q NP rest ts = rest ts

abbrev pub AreTrees : {E I : Type 0} → (E → Bool) → (ℕ → ℕ → Node I) → List (Entry E I) → List (List Read) → Type 0
AreTrees fits NP [] ts = ts ≡ []
AreTrees fits NP (e ∷ es) ts = Branch (fits e.key) e.postings NP (AreTrees fits NP es) ts

branch_rest : {I : Type 0} (b : Bool) (q : Postings I) (NP : ℕ → ℕ → Node I) (rest : List (List Read) → Type 0)
    (ts : List (List Read)) → Branch b q NP rest ts → (ts' : List (List Read)) × rest ts'
    × ((t : List Read) → In t ts' → In t ts)
branch_rest true (root r) NP rest ts h = (h.1, h.4, λ t m. subst (λ (l : List (List Read)). In t l) (sym h.2) (inr m))
branch_rest true (inline is) NP rest ts h = (ts, h, λ t m. m)
branch_rest false q NP rest ts h = (ts, h, λ t m. m)

first_tree : {I : Type 0} (r : ℕ) (NP : ℕ → ℕ → Node I) (rest : List (List Read) → Type 0) (ts : List (List Read))
    → Branch true (root r) NP rest ts → (t : List Read) × In t ts × Follows NP r t
first_tree r NP rest ts h = (h.0, subst (λ (l : List (List Read)). In h.0 l) (sym h.2) (inl refl), h.3)

tree_of : {E I : Type 0} (fits : E → Bool) (NP : ℕ → ℕ → Node I) (es : List (Entry E I)) (ts : List (List Read))
    (e : Entry E I) (r : ℕ) → AreTrees fits NP es ts → In e es → fits e.key ≡ true → e.postings ≡ root r
    → (t : List Read) × In t ts × Follows NP r t
tree_of fits NP [] ts e r ok m f p = absurd m
tree_of {E} {I} fits NP (d ∷ es) ts e r ok (inl same) f p =
    let here : Branch true (root r) NP (AreTrees fits NP es) ts =
    subst₂ (λ (b : Bool) (q : Postings I). Branch b q NP (AreTrees fits NP es) ts)
    (ap (λ (z : Entry E I). fits z.key) (sym same) ∙ f) (ap (λ (z : Entry E I). z.postings) (sym same) ∙ p) ok in
    first_tree r NP (AreTrees fits NP es) ts here
tree_of fits NP (d ∷ es) ts e r ok (inr m) f p =
    let rest = branch_rest (fits d.key) d.postings NP (AreTrees fits NP es) ts ok in
    let found = tree_of fits NP es rest.0 e r rest.1 m f p in
    (found.0, rest.2 found.0 found.1, found.2)

pub rising_in : (s end : ℕ) (ts : List (List Read)) (t : List Read) → Rising s end (tree_reads ts) → In t ts
    → Rising s end t
rising_in s end [] t rise m = absurd m
rising_in s end (u ∷ ts) t rise (inl e) = subst (Rising s end) (sym e) (rising_front s end u (tree_reads ts) rise)
rising_in s end (u ∷ ts) t rise (inr m) = rising_in s end ts t (rising_back s end u (tree_reads ts) rise) m

pub leaf_time : (t end : ℕ) (ls : List LeafRead) (l : LeafRead) → Rising t end (leaf_reads ls) → In l ls
    → (t ≤ l.leaf.time) × (l.leaf.time ≤ end) × Rising l.leaf.time end (tree_reads l.trees)
leaf_time t end [] l rise m = absurd m
leaf_time t end (d ∷ ls) l rise (inl e) =
    subst (λ (z : LeafRead). (t ≤ z.leaf.time) × (z.leaf.time ≤ end) × Rising z.leaf.time end (tree_reads z.trees))
    (sym e) (
      rise.0,
      rising_end d.leaf.time end (tree_reads d.trees ++ leaf_reads ls) rise.1,
      rising_front d.leaf.time end (tree_reads d.trees) (leaf_reads ls) rise.1,
    )
leaf_time t end (d ∷ ls) l rise (inr m) =
    let rest = leaf_time d.leaf.time end ls l (rising_back d.leaf.time end (tree_reads d.trees) (leaf_reads ls) rise.1)
    m in
    (omega (arith, rise.0, rest.0), rest.1, rest.2)

module _ {E I : Type 0} (o : Order E) (bottom top : E) (least : (x : E) → AtMost o top x top) (wide : o.less bottom top)
    (oi : Order I) (bottom_i top_i : I) (least_i : (x : I) → AtMost oi top_i x top_i) (wide_i : oi.less bottom_i top_i)
    (N : ℕ → ℕ → Node E) (g : ℕ → TreeGhost E) (NP : ℕ → ℕ → Node I) (gp : ℕ → TreeGhost I) (start end : ℕ)
    (RE : GrowRun o bottom top N g start end) (RP : Run oi bottom_i top_i NP gp start end)
    (entries : ℕ → ℕ → List (Entry E I))
  where
    all_steps : Run o bottom top N g start end
    all_steps = record { first = RE.first; zero_page = RE.zero_page; steps = λ t a b. Step.grows (RE.steps t a b) }

    entry_sane : (t : ℕ) → start ≤ t → t ≤ end → Sane o top (N t) (g t) × ((g t).place 0 ≡ none)
    entry_sane t a b = run_sane o bottom top least wide N g start end all_steps t a b

    -- what is under an entry at a moment
    pub data Under (t : ℕ) (e : Entry E I) (i : I) : Type 0 where
      on_list : (is : List I) → e.postings ≡ inline is → In i is → Under t e i
      on_tree : (r h : ℕ) → e.postings ≡ root r → OnTree (NP t) (gp t) r i → (gp t).place r ≡ tree r h
          → oi.less ((gp t).low r) i → Under t e i

    -- what was read of an entry
    pub data Read_under (e : Entry E I) (l : LeafRead) (i : I) : Type 0 where
      on_list : (is : List I) → e.postings ≡ inline is → In i is → Read_under e l i
      on_tree : (r : ℕ) (t : List Read) (x : Read) → e.postings ≡ root r → In t l.trees → Follows NP r t → In x t
          → In i (keys_of (NP x.time x.page)) → Read_under e l i

    abbrev pub Stands : E → I → ℕ → ℕ → Type 0
    Stands x i t p = (e : Entry E I) × In e (entries t p) × (e.key ≡ x) × Under t e i

    -- the law of the entry phase over real steps: a leaf was read when what stays under x was on it
    pub main_finds : (upto : E → E → Bool) → ((k b : E) → upto k b ≡ true → AtMost o top k b)
        → ((k b : E) → upto k b ≡ false → o.less b k)
        → (k x : E) → AtMost o top k x → o.less bottom k → (goes : E → Bool)
        → ((h : E) → AtMost o top k h → o.less h x → goes h ≡ true)
        → (i : I)
        → ((t : ℕ) → start ≤ t → t ≤ end → (q : ℕ) × ((g t).place q ≡ tree 1 0) × o.less ((g t).low q) x
        × AtMost o top x ((g t).high q) × Stands x i t q)
        → (last : ℕ) (down : List Read) (l : LeafRead) (ls : List LeafRead) (h : ℕ) → start ≤ end
        → (g start).place 1 ≡ tree 1 h → (g start).low 1 ≡ bottom
        → Rising start end (down ++ leaf_reads (l ∷ ls)) → LeadTo upto N k 1 down last
        → toward upto k (N l.leaf.time l.leaf.page) ≡ 0 → AreLeaves goes N last (l ∷ ls)
        → (y : LeafRead) × In y (l ∷ ls) × Stands x i y.leaf.time y.leaf.page
    main_finds upto is_upto not_upto k x from bk goes goes_on i there last down l ls h order at low rise lead is_leaf
        leaves =
        finds o bottom top least upto is_upto not_upto N g start end 1 k x from goes goes_on
        (λ t a b. (entry_sane t a b).0) (λ t a b. (entry_sane t a b).1)
        (λ t p n a b e. let s = entry_sane t a (omega arith) in
        grows_live o bottom top least wide (N t) (N (t + 1)) (g t) s.0 s.1 (g (t + 1)) (RE.steps t a b) p 1 n e)
        (λ t p n a b e m. let s = entry_sane t a (omega arith) in
        grows_level o bottom top least wide (N t) (N (t + 1)) (g t) s.0 s.1 (g (t + 1))
        (RE.steps t a b) p 1 n e m)
        (Stands x i) there last down l ls h order at low bk rise lead is_leaf leaves

    -- the law of the main part: an item that stays under a key that fits is read under that key
    pub main_meets : (upto : E → E → Bool) → ((k b : E) → upto k b ≡ true → AtMost o top k b)
        → ((k b : E) → upto k b ≡ false → o.less b k)
        → (k x : E) → AtMost o top k x → o.less bottom k → (goes : E → Bool)
        → ((h : E) → AtMost o top k h → o.less h x → goes h ≡ true)
        → (fits : E → Bool) → fits x ≡ true
        → (i : I) → NeverRemoved oi bottom_i top_i least_i wide_i NP gp start end RP i
        → ((t : ℕ) → start ≤ t → t ≤ end → (q : ℕ) × ((g t).place q ≡ tree 1 0) × o.less ((g t).low q) x
        × AtMost o top x ((g t).high q) × Stands x i t q)
        → (last : ℕ) (down : List Read) (l : LeafRead) (ls : List LeafRead) (h : ℕ) → start ≤ end
        → (g start).place 1 ≡ tree 1 h → (g start).low 1 ≡ bottom
        → Rising start end (down ++ leaf_reads (l ∷ ls)) → LeadTo upto N k 1 down last
        → toward upto k (N l.leaf.time l.leaf.page) ≡ 0 → AreLeaves goes N last (l ∷ ls)
        → ((y : LeafRead) → In y (l ∷ ls) → AreTrees fits NP (entries y.leaf.time y.leaf.page) y.trees)
        → (y : LeafRead) × In y (l ∷ ls)
        × ((e : Entry E I) × In e (entries y.leaf.time y.leaf.page) × (e.key ≡ x) × Read_under e y i)
    main_meets upto is_upto not_upto k x from bk goes goes_on fits fit i kept there last down l ls h order at low rise
        lead is_leaf leaves trees =
        let found = main_finds upto is_upto not_upto k x from bk goes goes_on i there last down l ls h order at low rise
        lead is_leaf leaves in
        (found.0, found.1, from_entry found.0 found.1 found.2)
      where
        from_entry : (y : LeafRead) → In y (l ∷ ls) → Stands x i y.leaf.time y.leaf.page → (e : Entry E I)
            × In e (entries y.leaf.time y.leaf.page) × (e.key ≡ x) × Read_under e y i
        from_entry y m (e, on, key, u) = (e, on, key, go u)
          where
            go : Under y.leaf.time e i → Read_under e y i
            go (Under.on_list is p inside) = Read_under.on_list is p inside
            go (Under.on_tree r n p on_it placed lower) =
                let times = leaf_time start end (l ∷ ls) y (rising_back start end down (leaf_reads (l ∷ ls)) rise) m in
                let t = tree_of fits NP (entries y.leaf.time y.leaf.page) y.trees e r (trees y m) on (ap fits key
                ∙ fit) p in
                let met = tree_meets oi bottom_i top_i least_i wide_i NP gp start end RP y.leaf.time r n i t.0 kept
                times.0 times.1 on_it placed lower (rising_in y.leaf.time end y.trees t.0 times.2 t.1) t.2 in
                Read_under.on_tree r t.0 met.0 p t.1 t.2 met.1 met.2
