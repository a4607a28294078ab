-- The pages below a posting root are those of its tree; so a pair of the main part is in an entry's list, or on a
-- leaf of a tree of its key.
use Rattle.std.proofs.Common.{◌≡◌, ℕ, zero, suc, List, [], ◌∷◌, map, refl, sym, ap, subst, ◌∙◌, inl, inr}
use Rattle.ts_base.specs.Keys.{Key}
use Rattle.page_types.specs.Items.{items_of}
use Rattle.page_types.specs.Views.{entries_of, posting_items_in}
use Rattle.page_types.specs.declared.page.Entry.{Entry}
use Rattle.page_types.specs.declared.page.PostChild.{PostChild}
use Rattle.page_types.specs.declared.page.Postings.TheVariants.{Inline}
use Rattle.page_types.specs.declared.page.Body.{Body}
use Rattle.page_types.specs.declared.page.Body.TheVariants as body
use Rattle.core_state.specs.Log.{Pages, In}
use Rattle.core_state.specs.Index.{Below, Under, Main, children_in}
use Rattle.core_state.specs.Trees.Ext.Ext.{greatest}
use Rattle.core_state.specs.Trees.Nodes as nodes
use Rattle.core_state.specs.Trees.TreeNodes.{post_child, post_body, post_nodes}
use Rattle.core_state.specs.Inner.Ghosts.{Place, Ghost, post_place, post_ghost}
use Rattle.core_state.specs.Inner.Ghosts.Place.{unused, meta, heap, line, past, shifted, left, entry, post, overflow_of}
use Rattle.core_state.specs.Inner.Ghosts.Place.{private_of}
use Rattle.core_state.specs.Inner.Kinds.{Fits}
use Rattle.core_state.proofs.Trees.Kids.{kid_place}
use Rattle.core_state.proofs.Trees.Order.{same_inner}
use Rattle.core_state.proofs.Trees.Orders.{items}
use Rattle.core_state.proofs.Trees.Below as trees
use Rattle.core_state.proofs.Trees.Below.{children, child_pages, below_of_place}
use Rattle.core_state.proofs.Law.MainPlaces.{MainAt, PostsHold}

-- a place that is in a posting tree
pub post_is : (x : Place) (r h : ℕ) → post_place x ≡ nodes.TreePlace.tree r h → x ≡ post r h
post_is unused r h e = absurd (cc)
post_is meta r h e = absurd (cc)
post_is heap r h e = absurd (cc)
post_is line r h e = absurd (cc)
post_is past r h e = absurd (cc)
post_is shifted r h e = absurd (cc)
post_is (left s) r h e = absurd (cc)
post_is (entry k) r h e = absurd (cc)
post_is (post s k) r h e = cc
post_is (overflow_of i) r h e = absurd (cc)
post_is (private_of i) r h e = absurd (cc)

pages_same : (cs : List PostChild) → child_pages (map post_child cs) ≡ map (λ (c : PostChild). c.page) cs
pages_same [] = refl
pages_same (c ∷ cs) = ap (λ (l : List ℕ). c.page ∷ l) (pages_same cs)

-- a child of a node is one of its page
child_of : (q right : ℕ) (b : Body) → In q (children (post_body right b)) → In q (children_in b)
child_of q right (body.PostInner cs) i = subst (In q) (pages_same cs) i
child_of q right body.Free i = absurd i
child_of q right (body.Meta first last count) i = absurd i
child_of q right (body.Heap slots) i = absurd i
child_of q right (body.Overflow bytes) i = absurd i
child_of q right (body.Pending rows) i = absurd i
child_of q right (body.EntryLeaf high es) i = absurd i
child_of q right (body.EntryInner cs) i = absurd i
child_of q right (body.PostLeaf high is) i = absurd i
child_of q right (body.Deleted gone) i = absurd i

from_nodes : (P : Pages) (r q : ℕ) → trees.Below (post_nodes P) r q → Below P r q
from_nodes P r q trees.Below.root = Below.root
from_nodes P r q (trees.Below.child {p = p} b i) = Below.child (from_nodes P r p b)
    (child_of q (P p).right (P p).body i)

module _ (L : ℕ) (P : Pages) (g : Ghost) (v : PostsHold L P g) where
  -- what is on a page of a posting tree
  pub leaf_at : (p r : ℕ) → g.place p ≡ post r 0 → (high : ℕ) × (is : List ℕ) × ((P p).body ≡ body.PostLeaf high is)
  leaf_at p r e = subst (λ (x : Place). Fits L x (P p)) e (v.kinds p)

  pub inner_at : (p r h : ℕ) → g.place p ≡ post r (suc h) → (cs : List PostChild) × ((P p).body ≡ body.PostInner cs)
  inner_at p r h e = subst (λ (x : Place). Fits L x (P p)) e (v.kinds p)

  pub step_down : (p q r h : ℕ) → g.place p ≡ post r h → In q (children_in (P p).body)
      → (k : ℕ) × (g.place q ≡ post r k)
  step_down p q r zero e i = absurd (subst (λ (b : Body). In q (children_in b)) (leaf_at p r e).2 i)
  step_down p q r (suc h) e i =
      let cs = inner_at p r h e in
      let ok = v.posts.inners p r h (ap post_place e) in
      let kids : ok.kids ≡ map post_child cs.0 =
      (same_inner _ _ _ _ (sym ok.node ∙ ap (post_body (P p).right) cs.1)).1 in
      let there = child_at q cs.0 (subst (λ (b : Body). In q (children_in b)) cs.1 i) in
      let kid = kid_place items greatest (post_ghost g) r h (g.low_item p) (g.high_item p) ok.kids
      (λ (y : ℕ) f. v.posts.span y r h f) ok.kids_ok (post_child there.0)
      (subst (In (post_child there.0)) (sym kids) there.1) in
      (h, post_is (g.place q) r h (subst (λ (z : ℕ). post_place (g.place z) ≡ nodes.TreePlace.tree r h) there.2 kid.0))
    where
      child_at : (q : ℕ) (cs : List PostChild) → In q (map (λ (c : PostChild). c.page) cs)
          → (c : PostChild) × In (post_child c) (map post_child cs) × (c.page ≡ q)
      child_at q [] i = absurd i
      child_at q (c ∷ cs) (inl e) = (c, inl refl, sym e)
      child_at q (c ∷ cs) (inr i) = let k = child_at q cs i in (k.0, inr k.1, k.2)

  -- below a root of a posting tree
  pub place_below : (r h q : ℕ) → g.place r ≡ post r h → Below P r q → (k : ℕ) × (g.place q ≡ post r k)
  place_below r h q e Below.root = (h, e)
  place_below r h q e (Below.child {p = p} b i) = let up = place_below r h p e b in step_down p q r up.0 up.1 i

  -- each page of a tree has its root
  pub root_of : (q r h : ℕ) → g.place q ≡ post r h → (k : ℕ) × (g.place r ≡ post r k)
  root_of q r h e = let k = v.rooted.trees q r h (ap post_place e) in (k.0, post_is (g.place r) r k.0 k.1)

  pub below_place : (q r h : ℕ) → g.place q ≡ post r h → Below P r q
  below_place q r h e =
      let top = root_of q r h e in
      from_nodes P r q (below_of_place items greatest (post_nodes P) (post_ghost g) v.posts r top.0
      (v.rooted.roots r top.0 (ap post_place top.1)) q h (ap post_place e))

  -- a pair in an entry's list, or on a leaf
  pub inline_main : (q i : ℕ) (e : Entry) (bytes : List ℕ) → In e (entries_of (P q)) → e.postings ≡ Inline bytes
      → In i (items_of bytes) → Main P e.key i
  inline_main q i e bytes on is there = record
      { page = q; entry = e; on = on; key = refl; under = Under.inline bytes is there }

  pub posted_main : (q r i : ℕ) → g.place q ≡ post r 0 → In i (posting_items_in (P q).body) → Main P (g.key_of r) i
  posted_main q r i e there =
      let top = root_of q r 0 e in
      let by = v.named.named r top.0 top.1 in
      record {
        page = by.0;
        entry = by.1;
        on = by.2;
        key = sym
            (v.named.key by.0 r by.1 by.2 by.3);
        under = Under.posted r q by.3 (below_place q r 0 e) there;
      }

module _ (L : ℕ) (P : Pages) (g : Ghost) (v : PostsHold L P g) where
  no_items : (b : Body) (cs : List PostChild) (i : ℕ) → b ≡ body.PostInner cs → In i (posting_items_in b) → ⊥
  no_items b cs i e m = subst (λ (c : Body). In i (posting_items_in c)) e m

  leaf_of : (q r h i : ℕ) → g.place q ≡ post r h → In i (posting_items_in (P q).body) → g.place q ≡ post r 0
  leaf_of q r zero i e m = e
  leaf_of q r (suc h) i e m = let cs = inner_at L P g v q r h e in absurd (no_items (P q).body cs.0 i cs.1 m)

  pub main_at : (k : Key) (i : ℕ) → Main P k i → MainAt P g k i
  main_at k i m = go m.under
    where
      go : Under P m.entry i → MainAt P g k i
      go (Under.inline bytes is there) = MainAt.listed m.page m.entry bytes m.on m.key is there
      go (Under.posted r q is b there) =
          let root = v.named.is_root m.page r m.entry m.on is in
          let at = place_below L P g v r root.0 q root.1 b in
          MainAt.posted q r (leaf_of q r at.0 i at.1 there) (v.named.key m.page r m.entry m.on is ∙ m.key) there

  pub at_main : (k : Key) (i : ℕ) → MainAt P g k i → Main P k i
  at_main k i (MainAt.listed q e bytes on key is there) = subst (λ (z : Key). Main P z i) key
      (inline_main L P g v q i e bytes on is there)
  at_main k i (MainAt.posted q r at key there) = subst (λ (z : Key). Main P z i) key
      (posted_main L P g v q r i at there)
