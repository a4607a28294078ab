-- The posting trees of a legal log: their roots have no right link, and a child that is divided in two leaves its
-- parent one that takes the second part.
use Rattle.std.proofs.Common.{◌≡◌, ◌≢◌, ◌⊎◌, ◌<◌, ◌≤◌, ℕ, suc, List, [], ◌∷◌, ◌++◌, map, refl, sym, ap, subst}
use Rattle.std.proofs.Common.{◌∙◌, inl, inr, arith}
use Rattle.std.proofs.lemmas.List.{map-append}
use Rattle.std.specs.List.{AllByRecursion}
use Rattle.ts_base.specs.Keys.{Key}
use Rattle.page_types.specs.Items.{items_of, AreItemsFrom}
use Rattle.page_types.specs.ItemReading.{last_or}
use Rattle.page_types.specs.Numbers.{item_limit, no_bound}
use Rattle.page_types.specs.Pages.{IsBody, IsPostChild}
use Rattle.page_types.specs.declared.page.Entry.{Entry}
use Rattle.page_types.specs.declared.page.EntryChild.{EntryChild}
use Rattle.page_types.specs.declared.page.PostChild.{PostChild}
use Rattle.page_types.specs.declared.page.Body.{Body}
use Rattle.page_types.specs.declared.page.Body.TheVariants as body
use Rattle.core_state.specs.Index.{IsNamed}
use Rattle.core_state.specs.Log.{Log, Pages, In, Shows}
use Rattle.core_state.specs.TreeRules.{PostHalves, Halves}
use Rattle.core_state.specs.Trees.Ext.{Ext}
use Rattle.core_state.specs.Trees.Ext.Ext.{at, greatest, least}
use Rattle.core_state.specs.Trees.Nodes.{AtMost, Kids}
use Rattle.core_state.specs.Trees.Nodes.Node.{inner}
use Rattle.core_state.specs.Trees.Nodes.TreePlace.{tree}
use Rattle.core_state.specs.Trees.TreeNodes.{child_bound, post_child, post_body, post_nodes}
use Rattle.core_state.specs.Inner.Ghosts.{Ghost, post_place, post_ghost}
use Rattle.core_state.proofs.PageLists.{in_back}
use Rattle.core_state.proofs.Trees.Members.{in_map, in_middle}
use Rattle.core_state.proofs.Trees.Order.{same_leaf, less_at_most, at_most_less}
use Rattle.core_state.proofs.Trees.Kids.{kid_place, kids_back, kids_order, kids_span}
use Rattle.core_state.proofs.Trees.Orders.{items, nat_order, ext_top, below_top, child_bound_is}
use Rattle.core_state.proofs.Trees.Find.{right_in, right_here, only_wide, wide_right, kids_here, child_here, not_before}
use Rattle.core_state.proofs.Trees.PostViews.{leaf_node, inner_node, at_most_item}
use Rattle.core_state.proofs.Law.Invariant.{Inv}
use Rattle.core_state.proofs.Law.Places.{place_for}
use Rattle.posting_tree.specs.Reading.{IsPostBody, bounds_of, upper_in}
use Rattle.gin_place.specs.Adopting.{DividesItems}

-- ── lists ──

last_bound : (front : List PostChild) (c : PostChild) (n : ℕ) → last_or n (bounds_of (front ++ c ∷ [])) ≡ c.bound
last_bound [] c n = refl
last_bound (d ∷ front) c n = last_bound front c d.bound

all_at : {A : Type 0} (T : A → Type 0) (front : List A) (a : A) (back : List A)
    → AllByRecursion T (front ++ a ∷ back) → T a
all_at T [] a back all = all.0
all_at T (x ∷ front) a back all = all_at T front a back all.1

in_front : {A : Type 0} (a : A) (xs ys : List A) → In a xs → In a (xs ++ ys)
in_front a [] ys i = absurd i
in_front a (x ∷ xs) ys (inl e) = inl e
in_front a (x ∷ xs) ys (inr i) = inr (in_front a xs ys i)

-- of a list that is not empty there is a first one
first_in : {A : Type 0} (xs : List A) → xs ≢ [] → (a : A) × In a xs
first_in [] some = absurd (some refl)
first_in (x ∷ xs) some = (x, inl refl)

items_small : (last i : ℕ) (is : List ℕ) → AreItemsFrom last is → In i is → i < item_limit
items_small last i [] are on = absurd on
items_small last i (j ∷ is) are (inl e) = let low : j < item_limit = are.1 in omega (arith, e, low)
items_small last i (j ∷ is) are (inr on) = items_small j i is are.2 on

-- ── bounds ──

-- what is below something is a bound
bound_item : (b : ℕ) (x : Ext ℕ) → items.less (child_bound b) x → (b ≢ no_bound) × (child_bound b ≡ at b)
bound_item b x l = elim (child_bound_is b) [
  | inl e ↦ absurd (below_top nat_order greatest x (subst (λ (z : Ext ℕ). items.less z x) e.1 l))
  | inr e ↦ e
]

bound_below : (b i : ℕ) → items.less (child_bound b) (at i) → b < i
bound_below b i l = subst (λ (z : Ext ℕ). items.less z (at i)) (bound_item b (at i) l).1 l

below_bound : (i b : ℕ) → i < no_bound → items.less (at i) (child_bound b) → i < b
below_bound i b small l = elim (child_bound_is b) [
  | inl e ↦ omega (arith, e.0, small)
  | inr e ↦ subst (items.less (at i)) e.1 l
]

shown_right : (right : ℕ) (b : Body) → IsPostBody b → right_in (post_body right b) ≡ right
shown_right right _ (IsPostBody.leaf high list) = refl
shown_right right _ (IsPostBody.inner cs) = refl

body_on : (right stamp : ℕ) (c b : Body) → c ≡ b → IsBody right stamp c → IsBody right stamp b
body_on right stamp c b is on = subst (IsBody right stamp) is on

-- an item that is at least each of the first part of a page and below each of the second
pub record IsBetween (low high : Ext ℕ) (mid : ℕ) : Type 0 where
  pub small : mid < no_bound
  pub above : items.less low (at mid)
  pub below : items.less (at mid) high

module _ (n L : ℕ) (R : Log) (P : Pages) (g : Ghost) (v : Inv n L R P g) (shown : Shows R P) where
  pub root_right : (k : Key) (root : ℕ) → IsNamed P k root → IsPostBody (P root).body → (P root).right ≡ 0
  root_right k root named is =
      let first = v.named.is_root named.page root named.entry named.on named.names in
      let place : post_place (g.place root) ≡ tree root first.0 = ap post_place first.1 in
      let low = v.posts_rooted.low root first.0 place in
      let high = v.posts_rooted.high root first.0 place in
      let only = only_wide items greatest (post_nodes P) (post_ghost g) v.posts least (λ x l. l)
      (ext_top nat_order) root root first.0 place low high in
      sym (shown_right (P root).right (P root).body is)
      ∙ wide_right items greatest (post_nodes P) (post_ghost g) v.posts least tt root root first.0 low high only
      (right_in (post_nodes P root))
      (right_here items greatest (post_nodes P) (post_ghost g) v.posts root root first.0 place)

  spans : (r h q : ℕ) → post_place (g.place q) ≡ tree r h → items.less (g.low_item q) (g.high_item q)
  spans r h q e = v.posts.span q r h e

  -- the children of an inner page
  record AreKids (p : ℕ) (front : List PostChild) (c : PostChild) (back : List PostChild) : Type 0 where
    root : ℕ
    height : ℕ
    kids : Kids items greatest (post_ghost g) root height (g.low_item p)
        (map post_child front ++ post_child c ∷ map post_child back) (g.high_item p)
    each : (b : PostChild) → In b (front ++ c ∷ back)
        → (post_place (g.place b.page) ≡ tree root height) × (g.high_item b.page ≡ child_bound b.bound)

  are_kids : (p : ℕ) (front : List PostChild) (c : PostChild) (back : List PostChild)
      → (P p).body ≡ body.PostInner (front ++ c ∷ back) → AreKids p front c back
  are_kids p front c back is =
      let at_p = place_for L (g.place p) (P p) (body.PostInner (front ++ c ∷ back)) (v.kinds p) is in
      let place : post_place (g.place p) ≡ tree at_p.0 (suc at_p.1) = ap post_place at_p.2 in
      let node = inner_node (P p) (front ++ c ∷ back) is in
      record {
        root = at_p.0;
        height = at_p.1;
        kids = kids_here items greatest (post_nodes P) (post_ghost g) v.posts p at_p.0 at_p.1 (P p).right
            (map post_child front ++ post_child c ∷ map post_child back) place
            (node ∙ ap (inner (P p).right) (map-append post_child front (c ∷ back)));
        each = λ b i. child_here items greatest (post_nodes P) (post_ghost g) v.posts p at_p.0 at_p.1 (P p).right
            (map post_child (front ++ c ∷ back)) (post_child b) place node (in_map post_child b (front ++ c ∷ back) i);
      }

  -- an item on a leaf is within its bounds
  leaf_within : (p high : ℕ) (list : List ℕ) → (P p).body ≡ body.PostLeaf high list → (i : ℕ) → In i (items_of list)
      → items.less (g.low_item p) (at i) × AtMost items greatest (at i) (g.high_item p)
  leaf_within p high list is i on =
      let at_p = place_for L (g.place p) (P p) (body.PostLeaf high list) (v.kinds p) is in
      let place : post_place (g.place p) ≡ tree at_p.0 0 = ap post_place at_p.1 in
      let ok = v.posts.leaves p at_p.0 place in
      ok.within (at i) (subst (λ (l : List (Ext ℕ)). In (at i) l)
      (same_leaf _ _ _ _ _ _ (sym (leaf_node (P p) high list is) ∙ ok.node)).2 (in_map at i (items_of list) on))

  -- what divides a page is between its bounds
  leaf_between : (p high mid : ℕ) (list front back : List ℕ) → (P p).body ≡ body.PostLeaf high list
      → items_of front ≢ [] → items_of back ≢ [] → items_of list ≡ items_of front ++ items_of back
      → ((i : ℕ) → In i (items_of front) → i ≤ mid) → ((i : ℕ) → In i (items_of back) → mid < i)
      → IsBetween (g.low_item p) (g.high_item p) mid
  leaf_between p high mid list front back is f b same up down =
      let on = body_on (P p).right (P p).stamp (P p).body (body.PostLeaf high list) is (shown p).0.body in
      let i = first_in (items_of front) f in
      let j = first_in (items_of back) b in
      let i_on : In i.0 (items_of list) =
      subst (In i.0) (sym same) (in_front i.0 (items_of front) (items_of back) i.1) in
      let j_on : In j.0 (items_of list) =
      subst (In j.0) (sym same) (in_back j.0 (items_of front) (items_of back) j.1) in
      let here = leaf_within p high list is i.0 i_on in
      let there = leaf_within p high list is j.0 j_on in
      let less = down j.0 j.1 in
      let low = items_small 0 j.0 (items_of list) (on.1).items j_on in
      record {
        small = omega (arith, less, low);
        above = less_at_most items greatest (g.low_item p) (at i.0) (at mid) here.0
            (at_most_item i.0 mid (up i.0 i.1));
        below = less_at_most items greatest (at mid) (at j.0) (g.high_item p) less there.1;
      }

  inner_between : (p : ℕ) (last next : PostChild) (front back : List PostChild)
      → (P p).body ≡ body.PostInner (front ++ last ∷ next ∷ back)
      → IsBetween (g.low_item p) (g.high_item p) last.bound
  inner_between p last next front back is =
      let on = body_on (P p).right (P p).stamp (P p).body (body.PostInner (front ++ last ∷ next ∷ back)) is
      (shown p).0.body in
      let k = are_kids p front last (next ∷ back) is in
      let cs = map post_child front ++ post_child last ∷ map post_child (next ∷ back) in
      let first = map post_child front in
      let here = k.each last (in_middle front last (next ∷ back)) in
      let place = kid_place items greatest (post_ghost g) k.root k.height (g.low_item p) (g.high_item p) cs
      (spans k.root k.height) k.kids (post_child last)
      (in_middle first (post_child last) (map post_child (next ∷ back))) in
      let low : items.less (g.low_item p) (child_bound last.bound) =
      subst (items.less (g.low_item p)) here.1 (at_most_less items greatest (g.low_item p) (g.low_item last.page)
      (g.high_item last.page) place.1 (spans k.root k.height last.page here.0)) in
      let rest = kids_back items greatest (post_ghost g) k.root k.height (g.low_item p) (g.high_item p) first
      (post_child last) (map post_child (next ∷ back)) k.kids in
      let high : items.less (child_bound last.bound) (g.high_item p) = kids_span items greatest (post_ghost g) k.root
      k.height (child_bound last.bound) (g.high_item p) (map post_child (next ∷ back)) (spans k.root k.height)
      (λ e. cc) rest in
      let bound = bound_item last.bound (g.high_item p) high in
      record {
        small = low_bound last.bound bound.0
            (all_at (IsPostChild (P p).right) front last (next ∷ back) on.each).bound;
        above = subst (items.less (g.low_item p)) bound.1 low;
        below = subst (λ (x : Ext ℕ). items.less x (g.high_item p)) bound.1 high;
      }
    where
      low_bound : (b : ℕ) → b ≢ no_bound → (b < item_limit) ⊎ ((b ≡ no_bound) × ((P p).right ≡ 0)) → b < no_bound
      low_bound b other (inl low) = omega (arith, low)
      low_bound b other (inr none) = absurd (other none.0)

  post_between : (p mid : ℕ) (whole left right : Body) → (P p).body ≡ whole → PostHalves mid whole left right
      → IsBetween (g.low_item p) (g.high_item p) (upper_in left)
  post_between p mid _ _ _ is (PostHalves.leaves high list front back f b same up down) =
      leaf_between p high mid list front back is f b same up down
  post_between p mid _ _ _ is (PostHalves.inners last front [] some e) = absurd (some refl)
  post_between p mid _ _ _ is (PostHalves.inners last front (next ∷ back) some e) =
      subst (IsBetween (g.low_item p) (g.high_item p)) (sym (last_bound front last 0))
      (inner_between p last next front back is)

  no_leaf : (high : Key) (es : List Entry) → IsPostBody (body.EntryLeaf high es) → ⊥
  no_leaf high es is = go (body.EntryLeaf high es) is refl
    where
      go : (b : Body) → IsPostBody b → b ≡ body.EntryLeaf high es → ⊥
      go _ (IsPostBody.leaf h l) e = cc
      go _ (IsPostBody.inner cs) e = cc

  no_inner : (children : List EntryChild) → IsPostBody (body.EntryInner children) → ⊥
  no_inner children is = go (body.EntryInner children) is refl
    where
      go : (b : Body) → IsPostBody b → b ≡ body.EntryInner children → ⊥
      go _ (IsPostBody.leaf h l) e = cc
      go _ (IsPostBody.inner cs) e = cc

  pub halves_between : (p : ℕ) (whole left right : Body) → (P p).body ≡ whole → IsPostBody whole
      → Halves whole left right → IsBetween (g.low_item p) (g.high_item p) (upper_in left)
  halves_between p _ _ _ is on (Halves.of_leaf high last front back some) = absurd (no_leaf _ _ on)
  halves_between p _ _ _ is on (Halves.of_inner mid children h) = absurd (no_inner _ on)
  halves_between p _ _ _ is on (Halves.of_post_leaf high mid list front back f b h) =
      post_between p mid (body.PostLeaf high list) (body.PostLeaf mid front) (body.PostLeaf high back) is h
  halves_between p _ left right is on (Halves.of_post_inner mid children h) =
      post_between p mid (body.PostInner children) left right is h

  -- such an item divides what is below a child
  pub child_divides : (p : ℕ) (front back : List PostChild) (c : PostChild) (mid : ℕ)
      → (P p).body ≡ body.PostInner (front ++ c ∷ back) → IsBetween (g.low_item c.page) (g.high_item c.page) mid
      → DividesItems (front ++ c ∷ back) c.page mid
  child_divides p front back c mid is between =
      let k = are_kids p front c back is in
      let here = k.each c (in_middle front c back) in
      let first = map post_child front in
      let last = map post_child back in
      let begins = not_before items greatest (post_nodes P) (post_ghost g) v.posts c.page k.root k.height here.0 in
      let before : (b : PostChild) → In b front → AtMost items greatest (child_bound b.bound) (g.low_item c.page) =
      λ b i. kids_order items greatest (post_ghost g) k.root k.height (g.low_item p) (g.high_item p) first
      (post_child c) last (spans k.root k.height) k.kids (post_child b) (in_map post_child b front i) in
      let rest = kids_back items greatest (post_ghost g) k.root k.height (g.low_item p) (g.high_item p) first
      (post_child c) last k.kids in
      let after : (b : PostChild) → In b back → AtMost items greatest (child_bound c.bound) (g.low_item b.page) =
      λ b i. (kid_place items greatest (post_ghost g) k.root k.height (child_bound c.bound) (g.high_item p) last
      (spans k.root k.height) rest (post_child b) (in_map post_child b back i)).1 in
      record {
        front = front;
        back = back;
        child = c;
        parts = refl;
        page_is = refl;
        none_before = λ b i same. begins (subst (λ (x : Ext ℕ). AtMost items greatest x (g.low_item c.page))
            (sym (k.each b (in_front b front (c ∷ back) i)).1 ∙ ap g.high_item same) (before b i));
        none_after = λ b i same. begins (subst (AtMost items greatest (g.high_item c.page)) (ap g.low_item same)
            (subst (λ (x : Ext ℕ). AtMost items greatest x (g.low_item b.page)) (sym here.1) (after b i)));
        above = λ b i. bound_below b.bound mid
            (at_most_less items greatest (child_bound b.bound) (g.low_item c.page) (at mid) (before b i) between.above);
        below = below_bound mid c.bound between.small (subst (items.less (at mid)) here.1 between.below);
      }
