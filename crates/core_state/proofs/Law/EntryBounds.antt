-- The way down the entry tree leads to each key, within the bounds on it.
use Rattle.std.proofs.Common.{◌≡◌, ℕ, zero, suc, List, [], ◌∷◌, ◌++◌, map, refl, sym, ap, subst, inl, inr}
use Rattle.ts_base.specs.Keys.{Key}
use Rattle.page_types.specs.Keys.{KeyLess}
use Rattle.page_types.specs.declared.page.Entry.{Entry}
use Rattle.page_types.specs.declared.page.EntryChild.{EntryChild}
use Rattle.page_types.specs.declared.page.Body.{Body}
use Rattle.page_types.specs.declared.page.Body.TheVariants as body
use Rattle.core_state.specs.Log.{Pages, In}
use Rattle.core_state.specs.Index.{Below, children_in}
use Rattle.core_state.specs.Changes.{UpTo}
use Rattle.core_state.specs.TreeRules.{Toward}
use Rattle.core_state.specs.Trees.Ext.{Ext, ext_less}
use Rattle.core_state.specs.Trees.Ext.Ext.{least, at, greatest}
use Rattle.core_state.specs.Trees.Nodes as nodes
use Rattle.core_state.specs.Trees.Nodes.{Child, AtMost, Sane}
use Rattle.core_state.specs.Trees.Nodes.Node.{inner}
use Rattle.core_state.specs.Trees.TreeNodes.{bound, entry_child, entry_body, entry_nodes}
use Rattle.core_state.specs.Inner.Ghosts.{Place, Ghost, entry_place, entry_ghost}
use Rattle.core_state.specs.Inner.Ghosts.Place.{entry}
use Rattle.core_state.specs.Inner.Kinds.{Fits, KindsFit}
use Rattle.core_state.proofs.Trees.Order.{same_inner}
use Rattle.core_state.proofs.Trees.Members.{in_map, of_map}
use Rattle.core_state.proofs.Trees.Find.{child_here}
use Rattle.core_state.proofs.Trees.Orders.{keys}
use Rattle.core_state.proofs.Trees.EntryViews.{inner_node, leaf_high, leaf_keys}
use Rattle.core_state.proofs.Trees.Down.{Down, cut_map, reached}
use Rattle.core_state.proofs.Law.Rooted.{AreRooted}
use Rattle.core_state.proofs.Law.TreeFields.{entry_is, entry_places}

-- a node that is an inner page comes from one
inner_page : (right : ℕ) (b : Body) (a : ℕ) (cs : List (Child (Ext Key))) → entry_body right b ≡ inner a cs
    → (ds : List EntryChild) × (b ≡ body.EntryInner ds) × (map entry_child ds ≡ cs)
inner_page right (body.EntryInner ds) a cs e = (ds, refl, (same_inner _ _ _ _ e).1)
inner_page right (body.EntryLeaf h es) a cs e = absurd (cc)
inner_page right body.Free a cs e = absurd (cc)
inner_page right (body.Meta x y z) a cs e = absurd (cc)
inner_page right (body.Heap s) a cs e = absurd (cc)
inner_page right (body.Overflow s) a cs e = absurd (cc)
inner_page right (body.Pending s) a cs e = absurd (cc)
inner_page right (body.PostLeaf h s) a cs e = absurd (cc)
inner_page right (body.PostInner s) a cs e = absurd (cc)
inner_page right (body.Deleted s) a cs e = absurd (cc)

-- what bounds say of keys
less_key : (b k : Key) → ext_less KeyLess (bound b) (at k) → KeyLess b k
less_key [] k l = absurd l
less_key (c ∷ cs) k l = l

pub to_up_to : (k b : Key) → AtMost keys greatest (at k) (bound b) → UpTo k b
to_up_to k [] m = inl refl
to_up_to k (c ∷ cs) (inl l) = inr (inl l)
to_up_to k (c ∷ cs) (inr e) = inr (inr (same_at k (c ∷ cs) e))
  where
    same_at : (a b : Key) → at a ≡ at b → a ≡ b
    same_at a b e = cc

to_toward : (P : Pages) (k : Key) (q p : ℕ) → Down keys greatest (entry_nodes P) (at k) q p → Toward P k p q
to_toward P k q p Down.here = Toward.here
to_toward P k q p (Down.down right front back c node each up rest) =
    let page = inner_page (P p).right (P p).body right (front ++ c ∷ back) node in
    let cut = cut_map entry_child page.0 front c back page.2 in
    subst (λ (z : List EntryChild). (P p).body ≡ body.EntryInner z → Toward P k p q) (sym cut.3)
    (λ e. Toward.down cut.0 cut.2 cut.1 e
    (λ b m. less_key b.bound k
    (each (entry_child b) (subst (λ (l : List (Child (Ext Key))). In (entry_child b) l) cut.4
    (in_map entry_child b cut.0 m))))
    (to_up_to k cut.1.bound (subst (λ (z : Child (Ext Key)). AtMost keys greatest (at k) z.bound) (sym cut.5) up))
    (subst (λ (z : ℕ). Toward P k z q) (sym (ap (λ (z : Child (Ext Key)). z.page) cut.5))
    (to_toward P k q c.page rest))) page.1

module _ (L : ℕ) (P : Pages) (g : Ghost) (K : KindsFit L P g) (S : Sane keys greatest (entry_nodes P) (entry_ghost g))
    (A : AreRooted least greatest (entry_nodes P) (entry_ghost g)) where
  -- each key is reached from the root, and is within its leaf's bound
  pub entry_bounded : (page : ℕ) (high : Key) (es : List Entry) (e : Entry) → (P page).body ≡ body.EntryLeaf high es
      → In e es → Toward P e.key 1 page × UpTo e.key high
  entry_bounded page high es e b m =
      let at_page = (entry_places L P g K).leaf_at page high es b in
      let root = A.trees page 1 0 at_page in
      let within = leaf_keys P (entry_ghost g) S (entry_places L P g K) page high es b e m in (
        to_toward P e.key page 1
            (reached keys greatest (entry_nodes P) (entry_ghost g) S (at e.key) page 1 root.0 0
            (A.roots 1 root.0 root.1) at_page within.0 within.1),
        to_up_to e.key high (subst (λ (z : Ext Key). AtMost keys greatest (at e.key) z)
            (sym (leaf_high P (entry_ghost g) S (entry_places L P g K) page high es b)) within.1),
      )

  step_down : (p q h : ℕ) → g.place p ≡ entry h → In q (children_in (P p).body) → (k : ℕ) × (g.place q ≡ entry k)
  step_down p q zero e i =
      let page : Fits L (entry 0) (P p) = subst (λ (x : Place). Fits L x (P p)) e (K p) in
      absurd (subst (λ (b : Body). In q (children_in b)) page.2 i)
  step_down p q (suc h) e i =
      let page : Fits L (entry (suc h)) (P p) = subst (λ (x : Place). Fits L x (P p)) e (K p) in
      let c = of_map (λ (c : EntryChild). c.page) q page.0 (subst (λ (b : Body). In q (children_in b)) page.1 i) in
      let there = child_here keys greatest (entry_nodes P) (entry_ghost g) S p 1 h (P p).right
      (map entry_child page.0)
      (entry_child c.0) (ap entry_place e) (inner_node (P p) page.0 page.1) (in_map entry_child c.0 page.0 c.1) in (
        h,
        entry_is (g.place q) 1 h
            (subst (λ (z : ℕ). entry_place (g.place z) ≡ nodes.TreePlace.tree 1 h) (sym c.2) there.0),
      )

  -- the pages below the root are those of the entry tree
  pub entry_below : (r h q : ℕ) → g.place r ≡ entry h → Below P r q → (k : ℕ) × (g.place q ≡ entry k)
  entry_below r h q e Below.root = (h, e)
  entry_below r h q e (Below.child {p = p} b i) = let up = entry_below r h p e b in step_down p q up.0 up.1 i
