-- What is below a page of a posting tree is of that tree, and begins no lower.
use Rattle.std.proofs.Common.{◌≡◌, ℕ, zero, suc, map, refl, sym, ap, subst, inr}
use Rattle.page_types.specs.declared.page.PostChild.{PostChild}
use Rattle.page_types.specs.declared.page.Body.{Body}
use Rattle.core_state.specs.Log.{Pages, In}
use Rattle.core_state.specs.Index.{Below, children_in}
use Rattle.core_state.specs.Trees.Ext.Ext.{greatest}
use Rattle.core_state.specs.Trees.Nodes as nodes
use Rattle.core_state.specs.Trees.Nodes.{AtMost}
use Rattle.core_state.specs.Trees.TreeNodes.{post_child, post_nodes}
use Rattle.core_state.specs.Inner.Ghosts.{Ghost, post_place, post_ghost}
use Rattle.core_state.specs.Inner.Ghosts.Place.{post}
use Rattle.core_state.proofs.Trees.Order.{at_most_trans}
use Rattle.core_state.proofs.Trees.Members.{in_map, of_map}
use Rattle.core_state.proofs.Trees.Kids.{kid_place}
use Rattle.core_state.proofs.Trees.Find.{kids_here}
use Rattle.core_state.proofs.Trees.Orders.{items}
use Rattle.core_state.proofs.Trees.PostViews.{inner_node}
use Rattle.core_state.proofs.Law.Belows.{post_is, leaf_at, inner_at}
use Rattle.core_state.proofs.Law.MainPlaces.{PostsHold}

module _ (L : ℕ) (P : Pages) (g : Ghost) (v : PostsHold L P g) where
  -- a page with children is an inner page, of a posting tree if a child is
  pub child_step : (p q t h : ℕ) → g.place p ≡ post t h → In q (children_in (P p).body) → (i : ℕ)
      × (g.place p ≡ post t (suc i)) × (g.place q ≡ post t i) × AtMost items greatest (g.low_item p) (g.low_item q)
  child_step p q t zero e i = absurd (subst (λ (b : Body). In q (children_in b)) (leaf_at L P g v p t e).2 i)
  child_step p q t (suc h) e i =
      let cs = inner_at L P g v p t h e in
      let c = of_map (λ (c : PostChild). c.page) q cs.0 (subst (λ (b : Body). In q (children_in b)) cs.1 i) in
      let node = inner_node (P p) cs.0 cs.1 in
      let k = kid_place items greatest (post_ghost g) t h (g.low_item p) (g.high_item p) (map post_child cs.0)
      (λ (y : ℕ) f. v.posts.span y t h f)
      (kids_here items greatest (post_nodes P) (post_ghost g) v.posts p t h (P p).right (map post_child cs.0)
      (ap post_place e) node) (post_child c.0) (in_map post_child c.0 cs.0 c.1) in (
        h,
        e,
        post_is (g.place q) t h (subst (λ (z : ℕ). post_place (g.place z) ≡ nodes.TreePlace.tree t h) (sym c.2) k.0),
        subst (λ (z : ℕ). AtMost items greatest (g.low_item p) (g.low_item z)) (sym c.2) k.1,
      )

  pub descend : (r q t h : ℕ) → g.place r ≡ post t h → Below P r q → (k : ℕ) × (g.place q ≡ post t k)
      × AtMost items greatest (g.low_item r) (g.low_item q)
  descend r q t h e Below.root = (h, e, inr refl)
  descend r q t h e (Below.child {p = y} b i) =
      let up = descend r y t h e b in
      let s = child_step y q t up.0 up.1 i in
      (s.0, s.2, at_most_trans items greatest (g.low_item r) (g.low_item y) (g.low_item q) up.2 s.3)
