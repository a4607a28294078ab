-- The way of a leaf's high item, down its posting tree, leads to the leaf.
use Rattle.std.proofs.Common.{◌≡◌, ◌≢◌, ◌<◌, ◌≤◌, ℕ, List, ◌∷◌, ◌++◌, map, length, refl, sym, ap, subst, ◌∙◌, inl}
use Rattle.std.proofs.Common.{inr, arith}
use Rattle.ts_base.specs.Keys.{Key}
use Rattle.page_types.specs.Numbers.{no_bound, item_limit}
use Rattle.page_types.specs.Items.{items_of}
use Rattle.page_types.specs.declared.page.PostChild.{PostChild}
use Rattle.page_types.specs.declared.page.Body.{Body}
use Rattle.page_types.specs.declared.page.Body.TheVariants as body
use Rattle.core_state.specs.Log.{Log, Pages, In, Shows, commits}
use Rattle.core_state.specs.Index.{IsNamed}
use Rattle.core_state.specs.Legal.{IsLegal}
use Rattle.core_state.specs.PagesTold.{IsPostLeaf}
use Rattle.core_state.specs.TreeRules.{TowardItem, IsRoot}
use Rattle.core_state.specs.Trees.Ext.{Ext}
use Rattle.core_state.specs.Trees.Ext.Ext.{at, greatest, least}
use Rattle.core_state.specs.Trees.Nodes.{Child, AtMost}
use Rattle.core_state.specs.Trees.Nodes.Node.{inner}
use Rattle.core_state.specs.Trees.Nodes.TreePlace.{tree}
use Rattle.core_state.specs.Trees.TreeNodes.{high_bound, child_bound, post_child, post_body, post_nodes}
use Rattle.core_state.specs.Inner.Ghosts.{Ghost, post_place, post_ghost}
use Rattle.core_state.proofs.Trees.Members.{in_map}
use Rattle.core_state.proofs.Trees.Order.{same_inner}
use Rattle.core_state.proofs.Trees.Orders.{items, high_bound_is, child_bound_is}
use Rattle.core_state.proofs.Trees.FromNodes.{leaf_shows}
use Rattle.core_state.proofs.Trees.PostViews.{leaf_node}
use Rattle.core_state.proofs.Trees.Down.{Down, cut_map, reached}
use Rattle.core_state.proofs.Law.Invariant.{Inv}
use Rattle.core_state.proofs.Law.Bounded.{tree_of}
use Rattle.core_state.proofs.Law.AllCases.{all_steps}
use Rattle.core_state.proofs.Law.Runs.{plain_run}

-- a node that is an inner page comes from one
inner_page : (right : ℕ) (b : Body) (a : ℕ) (cs : List (Child (Ext ℕ))) → post_body right b ≡ inner a cs
    → (ds : List PostChild) × (b ≡ body.PostInner ds) × (map post_child ds ≡ cs)
inner_page right (body.PostInner ds) a cs e = (ds, refl, (same_inner _ _ _ _ e).1)
inner_page right (body.PostLeaf h s) a cs e = absurd (cc)
inner_page right (body.Deleted s) a cs e = absurd (cc)
inner_page right (body.EntryLeaf h es) a cs e = absurd (cc)
inner_page right (body.EntryInner ds) a cs e = absurd (cc)
inner_page right body.Free a cs e = absurd (cc)
inner_page right (body.Meta x y z) a cs e = absurd (cc)
inner_page right (body.Heap s) a cs e = absurd (cc)
inner_page right (body.Overflow s) a cs e = absurd (cc)
inner_page right (body.Pending s) a cs e = absurd (cc)

same_at : (i j : ℕ) → at i ≡ at j → i ≡ j
same_at i j e = cc

at_most : (i j : ℕ) → AtMost items greatest (at i) (at j) → i ≤ j
at_most i j (inl l) = omega (arith, l)
at_most i j (inr e) = let s = same_at i j e in omega (arith, s)

less_item : (b i : ℕ) → items.less (child_bound b) (at i) → b < i
less_item b i l = elim (child_bound_is b) [
  | inl e ↦ absurd (subst (λ (z : Ext ℕ). items.less z (at i)) e.1 l)
  | inr e ↦ subst (λ (z : Ext ℕ). items.less z (at i)) e.1 l
]

all_below : (i b : ℕ) → i < item_limit → b ≡ no_bound → i ≤ b
all_below i b l e = omega (arith, l, e)

to_bound : (i b : ℕ) → i < item_limit → AtMost items greatest (at i) (child_bound b) → i ≤ b
to_bound i b small m = elim (child_bound_is b) [
  | inl e ↦ all_below i b small e.0
  | inr e ↦ at_most i b (subst (λ (z : Ext ℕ). AtMost items greatest (at i) z) e.1 m)
]

to_toward : (P : Pages) (i : ℕ) → i < item_limit → (q p : ℕ) → Down items greatest (post_nodes P) (at i) q p
    → TowardItem P i p q
to_toward P i small q p Down.here = TowardItem.here
to_toward P i small q p (Down.down right front back c node each up rest) =
    let page = inner_page (P p).right (P p).body right (front ++ c ∷ back) node in
    let cut = cut_map post_child page.0 front c back page.2 in
    subst (λ (z : List PostChild). (P p).body ≡ body.PostInner z → TowardItem P i p q) (sym cut.3)
    (λ e. TowardItem.down cut.0 cut.2 cut.1 e
    (λ b m. less_item b.bound i
    (each (post_child b) (subst (λ (l : List (Child (Ext ℕ))). In (post_child b) l) cut.4
    (in_map post_child b cut.0 m))))
    (to_bound i cut.1.bound small
    (subst (λ (z : Child (Ext ℕ)). AtMost items greatest (at i) z.bound) (sym cut.5) up))
    (subst (λ (z : ℕ). TowardItem P i z q) (sym (ap (λ (z : Child (Ext ℕ)). z.page) cut.5))
    (to_toward P i small q c.page rest))) page.1

high_at : (high : ℕ) → high ≢ 0 → high_bound high ≡ at high
high_at high some = elim (high_bound_is high) [ inl e ↦ absurd (some e.0) | inr e ↦ e.1 ]

not_greatest : (i : ℕ) → at i ≡ greatest → ⊥
not_greatest i e = cc

module _ (n L : ℕ) (R : Log) (P : Pages) (g : Ghost) (v : Inv n L R P g) (shown : Shows R P) (root p high : ℕ)
    (list : List ℕ) (is : IsRoot P root) (l : IsPostLeaf P root p) (content : (P p).body ≡ body.PostLeaf high list)
    (some : high ≢ 0) where
  place : post_place (g.place p) ≡ tree root 0
  place = ap post_place (tree_of n L R P g v shown root p high list is l.0 content)

  ends : g.high_item p ≡ at high
  ends =
      let shows = leaf_shows items least greatest (post_nodes P) (post_nodes P) (post_ghost g) v.posts p root
      (P p).right
      (high_bound high) (map at (items_of list)) place (leaf_node (P p) high list content) in
      sym shows.0 ∙ high_at high some

  way : high < item_limit → TowardItem P high root p
  way small =
      let top = v.posts_rooted.trees p root 0 place in
      to_toward P high small p root
      (reached items greatest (post_nodes P) (post_ghost g) v.posts (at high) p root top.0 0
      (v.posts_rooted.roots root top.0 top.1) place
      (subst (λ (x : Ext ℕ). items.less (g.low_item p) x) ends (v.posts.span p root 0 place))
      (inr (sym ends)))

  -- the root ends with no item
  not_root : root ≢ p
  not_root same =
      not_greatest high (sym ends ∙ v.posts_rooted.high p 0
      (subst (λ (r : ℕ). post_place (g.place p) ≡ tree r 0) same place))

-- in a legal log
module _ (S : Log) (P : Pages) (legal : IsLegal S) (shown : Shows S P) (k : Key) (root p high : ℕ) (list : List ℕ)
    (named : IsNamed P k root) (l : IsPostLeaf P root p) (content : (P p).body ≡ body.PostLeaf high list)
    (some : high ≢ 0) where
  pub leaf_way : high < item_limit → TowardItem P high root p
  leaf_way =
      let held = plain_run all_steps S legal.valid P shown in
      way (commits S) (length S) S P held.0 held.1 shown root p high list (IsRoot.of_postings k named) l content some

  pub root_not_leaf : root ≢ p
  root_not_leaf =
      let held = plain_run all_steps S legal.valid P shown in
      not_root (commits S) (length S) S P held.0 held.1 shown root p high list
      (IsRoot.of_postings k named) l content some
