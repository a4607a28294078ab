-- The entry tree of a legal log: its root has no right link, and a child that is divided in two leaves its
-- parent one that takes the second part.
use Rattle.std.proofs.Common.{◌≡◌, ◌≢◌, ℕ, suc, List, [], ◌∷◌, ◌++◌, map, refl, sym, ap, subst, ◌∙◌, inl, inr}
use Rattle.std.proofs.lemmas.List.{map-append}
use Rattle.std.specs.List.{AllByRecursion}
use Rattle.ts_base.specs.Keys.{Key}
use Rattle.page_types.specs.Keys.{IsKey, KeyLess, BoundLess, Rising}
use Rattle.page_types.specs.Pages.{IsBody, IsEntry}
use Rattle.page_types.specs.declared.page.Entry.{Entry}
use Rattle.page_types.specs.declared.page.EntryChild.{EntryChild}
use Rattle.page_types.specs.declared.page.PostChild.{PostChild}
use Rattle.page_types.specs.declared.page.Body.{Body}
use Rattle.page_types.specs.declared.page.Body.TheVariants as body
use Rattle.core_state.specs.Log.{Log, Pages, In, Shows}
use Rattle.core_state.specs.TreeRules.{EntryHalves, Halves}
use Rattle.core_state.specs.Trees.Ext.{Ext}
use Rattle.core_state.specs.Trees.Ext.Ext.{at, greatest, least}
use Rattle.core_state.specs.Trees.Nodes.{AtMost, Kids}
use Rattle.core_state.specs.Trees.Nodes.Node.{inner}
use Rattle.core_state.specs.Trees.Nodes.TreePlace.{tree}
use Rattle.core_state.specs.Trees.TreeNodes.{bound, entry_child, entry_body, entry_nodes}
use Rattle.core_state.specs.Inner.Ghosts.{Ghost, entry_place, entry_ghost}
use Rattle.core_state.proofs.Trees.Members.{in_map, in_middle}
use Rattle.core_state.proofs.Trees.Order.{less_at_most, at_most_less}
use Rattle.core_state.proofs.Trees.Kids.{kid_place, kids_back, kids_order, kids_span}
use Rattle.core_state.proofs.Trees.Orders.{keys, key_order, ext_top, below_top}
use Rattle.core_state.proofs.Trees.Find.{right_in, right_here, only_wide, wide_right, kids_here, child_here, not_before}
use Rattle.core_state.proofs.Trees.EntryViews.{inner_node, leaf_keys}
use Rattle.core_state.proofs.Law.Invariant.{Inv}
use Rattle.core_state.proofs.Law.Places.{place_for}
use Rattle.core_state.proofs.Law.TreeFields.{entry_places}
use Rattle.entry_tree.specs.Finding.{IsEntryBody, IsBelow}
use Rattle.entry_tree.specs.Reading.{last_bound, upper_in}
use Rattle.gin_place.specs.Adopting.{Divides}

last_bound-push : (front : List EntryChild) (c : EntryChild) → last_bound (front ++ c ∷ []) ≡ c.bound
last_bound-push [] c = refl
last_bound-push (d ∷ []) c = refl
last_bound-push (d ∷ e ∷ front) c = last_bound-push (e ∷ front) c

-- ── bounds ──

-- what is below something has bytes
bound_key : (b : Key) (x : Ext Key) → keys.less (bound b) x → (b ≢ []) × (bound b ≡ at b)
bound_key [] x l = absurd (below_top key_order greatest x l)
bound_key (c ∷ cs) x l = ((λ e. cc), refl)

bound_below : (b k : Key) → keys.less (bound b) (at k) → IsBelow b k
bound_below [] k l = absurd l
bound_below (c ∷ cs) k l = ((λ e. cc), l)

below_bound : (k b : Key) → k ≢ [] → keys.less (at k) (bound b) → BoundLess k b
below_bound k [] some l = (some, inl refl)
below_bound k (c ∷ cs) some l = (some, inr l)

key_some : (k : Key) → IsKey k → k ≢ []
key_some [] is e = is
key_some (b ∷ bs) is e = cc

-- ── what follows in a list that rises ──

later : {A : Type 0} (Below : A → A → Type 0) (front : List A) (a b : A) (back : List A)
    → Rising Below (front ++ a ∷ b ∷ back) → Below a b
later Below [] a b back rise = rise.0.0
later Below (x ∷ front) a b back rise = later Below front a b back rise.1

all_at : {A : Type 0} (P : A → Type 0) (front : List A) (a : A) (back : List A)
    → AllByRecursion P (front ++ a ∷ back) → P a
all_at P [] a back all = all.0
all_at P (x ∷ front) a back all = all_at P front a back all.1

shown_right : (right : ℕ) (b : Body) → IsEntryBody b → right_in (entry_body right b) ≡ right
shown_right right _ (IsEntryBody.leaf high es) = refl
shown_right right _ (IsEntryBody.inner cs) = refl

leaf_on : (right stamp : ℕ) (c b : Body) → c ≡ b → IsBody right stamp c → IsBody right stamp b
leaf_on right stamp c b is on = subst (IsBody right stamp) is on

no_post : (high : ℕ) (items : List ℕ) → IsEntryBody (body.PostLeaf high items) → ⊥
no_post high items is = go (body.PostLeaf high items) is refl
  where
    go : (b : Body) → IsEntryBody b → b ≡ body.PostLeaf high items → ⊥
    go _ (IsEntryBody.leaf h es) e = cc
    go _ (IsEntryBody.inner cs) e = cc

no_posts : (children : List PostChild) → IsEntryBody (body.PostInner children) → ⊥
no_posts children is = go (body.PostInner children) is refl
  where
    go : (b : Body) → IsEntryBody b → b ≡ body.PostInner children → ⊥
    go _ (IsEntryBody.leaf h es) e = cc
    go _ (IsEntryBody.inner cs) e = cc

-- a key that is above all of the first part of a page and below all of the second
pub record IsBetween (low high : Ext Key) (mid : Key) : Type 0 where
  pub some : mid ≢ []
  pub above : keys.less low (at mid)
  pub below : keys.less (at mid) high

module _ (n L : ℕ) (R : Log) (P : Pages) (g : Ghost) (v : Inv n L R P g) (shown : Shows R P) where
  pub root_right : R ≢ [] → IsEntryBody (P 1).body → (P 1).right ≡ 0
  root_right some is =
      let first = v.starts.page_1 some in
      let place : entry_place (g.place 1) ≡ tree 1 first.0 = ap entry_place first.1 in
      let low = v.entries_rooted.low 1 first.0 place in
      let high = v.entries_rooted.high 1 first.0 place in
      let only = only_wide keys greatest (entry_nodes P) (entry_ghost g) v.entries least (λ x l. l)
      (ext_top key_order) 1 1 first.0 place low high in
      sym (shown_right (P 1).right (P 1).body is)
      ∙ wide_right keys greatest (entry_nodes P) (entry_ghost g) v.entries least tt 1 1 first.0 low high only
      (right_in (entry_nodes P 1))
      (right_here keys greatest (entry_nodes P) (entry_ghost g) v.entries 1 1 first.0 place)

  spans : (h q : ℕ) → entry_place (g.place q) ≡ tree 1 h → keys.less (g.low_key q) (g.high_key q)
  spans h q e = v.entries.span q 1 h e

  -- the children of an inner page
  record AreKids (p : ℕ) (front : List EntryChild) (c : EntryChild) (back : List EntryChild) : Type 0 where
    height : ℕ
    place : entry_place (g.place p) ≡ tree 1 (suc height)
    kids : Kids keys greatest (entry_ghost g) 1 height (g.low_key p)
        (map entry_child front ++ entry_child c ∷ map entry_child back) (g.high_key p)
    each : (b : EntryChild) → In b (front ++ c ∷ back)
        → (entry_place (g.place b.page) ≡ tree 1 height) × (g.high_key b.page ≡ bound b.bound)

  are_kids : (p : ℕ) (front : List EntryChild) (c : EntryChild) (back : List EntryChild)
      → (P p).body ≡ body.EntryInner (front ++ c ∷ back) → AreKids p front c back
  are_kids p front c back is =
      let at_p = place_for L (g.place p) (P p) (body.EntryInner (front ++ c ∷ back)) (v.kinds p) is in
      let place : entry_place (g.place p) ≡ tree 1 (suc at_p.0) = ap entry_place at_p.1 in
      let node = inner_node (P p) (front ++ c ∷ back) is in
      record {
        height = at_p.0;
        place = place;
        kids = kids_here keys greatest (entry_nodes P) (entry_ghost g) v.entries p 1 at_p.0 (P p).right
            (map entry_child front ++ entry_child c ∷ map entry_child back) place
            (node ∙ ap (inner (P p).right) (map-append entry_child front (c ∷ back)));
        each = λ b i. child_here keys greatest (entry_nodes P) (entry_ghost g) v.entries p 1 at_p.0 (P p).right
            (map entry_child (front ++ c ∷ back)) (entry_child b) place node
            (in_map entry_child b (front ++ c ∷ back) i);
      }

  -- the greatest key of the first part of a page in two parts is between the page's bounds
  leaf_between : (p : ℕ) (high : Key) (last next : Entry) (front back : List Entry)
      → (P p).body ≡ body.EntryLeaf high (front ++ last ∷ next ∷ back) → IsBetween (g.low_key p) (g.high_key p) last.key
  leaf_between p high last next front back is =
      let on = leaf_on (P p).right (P p).stamp (P p).body _ is (shown p).0.body in
      let places = entry_places L P g v.kinds in
      let es = front ++ last ∷ next ∷ back in
      let here = leaf_keys P (entry_ghost g) v.entries places p high es is last (in_middle front last (next ∷ back)) in
      let there = leaf_keys P (entry_ghost g) v.entries places p high es is next (in_next front) in
      let less : KeyLess last.key next.key =
      later (λ (d e : Entry). KeyLess d.key e.key) front last next back on.1.rising in
      record {
        some = key_some last.key (all_at IsEntry front last (next ∷ back) on.1.each).key;
        above = here.0;
        below = less_at_most keys greatest (at last.key) (at next.key) (g.high_key p) less there.1;
      }
    where
      in_next : (xs : List Entry) → In next (xs ++ last ∷ next ∷ back)
      in_next [] = inr (inl refl)
      in_next (x ∷ xs) = inr (in_next xs)

  inner_between : (p : ℕ) (last next : EntryChild) (front back : List EntryChild)
      → (P p).body ≡ body.EntryInner (front ++ last ∷ next ∷ back)
      → IsBetween (g.low_key p) (g.high_key p) last.bound
  inner_between p last next front back is =
      let k = are_kids p front last (next ∷ back) is in
      let cs = map entry_child front ++ entry_child last ∷ map entry_child (next ∷ back) in
      let first = map entry_child front in
      let here = k.each last (in_middle front last (next ∷ back)) in
      let place = kid_place keys greatest (entry_ghost g) 1 k.height (g.low_key p) (g.high_key p) cs (spans k.height)
      k.kids (entry_child last) (in_middle first (entry_child last) (map entry_child (next ∷ back))) in
      let low : keys.less (g.low_key p) (bound last.bound) =
      subst (keys.less (g.low_key p)) here.1 (at_most_less keys greatest (g.low_key p) (g.low_key last.page)
      (g.high_key last.page) place.1 (spans k.height last.page here.0)) in
      let rest = kids_back keys greatest (entry_ghost g) 1 k.height (g.low_key p) (g.high_key p) first
      (entry_child last) (map entry_child (next ∷ back)) k.kids in
      let high : keys.less (bound last.bound) (g.high_key p) = kids_span keys greatest (entry_ghost g) 1 k.height
      (bound last.bound) (g.high_key p) (map entry_child (next ∷ back)) (spans k.height) (λ e. cc) rest in
      let key = bound_key last.bound (g.high_key p) high in
      record {
        some = key.0;
        above = subst (keys.less (g.low_key p)) key.1 low;
        below = subst (λ (x : Ext Key). keys.less x (g.high_key p)) key.1 high;
      }

  pub halves_between : (p : ℕ) (whole left right : Body) → (P p).body ≡ whole → IsEntryBody whole
      → Halves whole left right → IsBetween (g.low_key p) (g.high_key p) (upper_in left)
  halves_between p _ _ _ is on (Halves.of_leaf high last front [] some) = absurd (some refl)
  halves_between p _ _ _ is on (Halves.of_leaf high last front (next ∷ back) some) =
      leaf_between p high last next front back is
  halves_between p _ _ _ is on (Halves.of_inner mid children (EntryHalves.inners last front [] some e)) =
      absurd (some refl)
  halves_between p _ _ _ is on (Halves.of_inner mid children (EntryHalves.inners last front (next ∷ back) some e)) =
      subst (IsBetween (g.low_key p) (g.high_key p)) (sym (last_bound-push front last))
      (inner_between p last next front back is)
  halves_between p _ _ _ is on (Halves.of_post_leaf high mid items front back f b h) = absurd (no_post _ _ on)
  halves_between p _ _ _ is on (Halves.of_post_inner mid children h) = absurd (no_posts _ on)

  -- such a key divides what is below a child
  pub child_divides : (p : ℕ) (front back : List EntryChild) (c : EntryChild) (mid : Key)
      → (P p).body ≡ body.EntryInner (front ++ c ∷ back) → IsBetween (g.low_key c.page) (g.high_key c.page) mid
      → Divides (front ++ c ∷ back) c.page mid
  child_divides p front back c mid is between =
      let k = are_kids p front c back is in
      let here = k.each c (in_middle front c back) in
      let first = map entry_child front in
      let last = map entry_child back in
      let begins = not_before keys greatest (entry_nodes P) (entry_ghost g) v.entries c.page 1 k.height here.0 in
      let before : (b : EntryChild) → In b front → AtMost keys greatest (bound b.bound) (g.low_key c.page) =
      λ b i. kids_order keys greatest (entry_ghost g) 1 k.height (g.low_key p) (g.high_key p) first (entry_child c) last
      (spans k.height) k.kids (entry_child b) (in_map entry_child b front i) in
      let rest = kids_back keys greatest (entry_ghost g) 1 k.height (g.low_key p) (g.high_key p) first (entry_child c)
      last k.kids in
      let after : (b : EntryChild) → In b back → AtMost keys greatest (bound c.bound) (g.low_key b.page) =
      λ b i. (kid_place keys greatest (entry_ghost g) 1 k.height (bound c.bound) (g.high_key p) last (spans k.height)
      rest (entry_child b) (in_map entry_child b back i)).1 in
      record {
        front = front;
        back = back;
        child = c;
        parts = refl;
        page_is = refl;
        none_before = λ b i same. begins (subst (λ (x : Ext Key). AtMost keys greatest x (g.low_key c.page))
            (sym (k.each b (in_front b front i)).1 ∙ ap g.high_key same) (before b i));
        none_after = λ b i same. begins (subst (AtMost keys greatest (g.high_key c.page)) (ap g.low_key same)
            (subst (λ (x : Ext Key). AtMost keys greatest x (g.low_key b.page)) (sym here.1) (after b i)));
        above = λ b i. bound_below b.bound mid
            (at_most_less keys greatest (bound b.bound) (g.low_key c.page) (at mid) (before b i) between.above);
        below = below_bound mid c.bound between.some (subst (keys.less (at mid)) here.1 between.below);
      }
    where
      in_front : (b : EntryChild) (xs : List EntryChild) → In b xs → In b (xs ++ c ∷ back)
      in_front b [] i = absurd i
      in_front b (x ∷ xs) (inl e) = inl e
      in_front b (x ∷ xs) (inr i) = inr (in_front b xs i)
