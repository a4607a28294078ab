-- Steps of a tree from the nodes before and after them: a divided leaf or inner page, and a grown root.
use Rattle.std.proofs.Common.{◌≡◌, ◌≢◌, ◌⊎◌, ◌≤◌, ℕ, suc, List, [], ◌∷◌, ◌++◌, refl, sym, ap, ap₂, subst, ◌∙◌, inl, inr}
use Rattle.std.proofs.Common.{arith}
use Rattle.core_state.specs.Log.{In}
use Rattle.core_state.specs.Trees.Nodes.{Order, Child, Node, TreeGhost, AtMost, RightOk, Sane, IsSplitLeaf}
use Rattle.core_state.specs.Trees.Nodes.{IsDeleteLeaf, split_ghost, delete_ghost}
use Rattle.core_state.specs.Trees.Nodes.Node.{other, leaf, inner, gone}
use Rattle.core_state.specs.Trees.Nodes.TreePlace.{none, tree, left}
use Rattle.core_state.specs.Inner.Shapes.{IsSplitInner}
use Rattle.core_state.proofs.PageLists.{in_either, in_front, in_back}
use Rattle.core_state.proofs.Trees.Members.{in_middle}
use Rattle.core_state.proofs.Trees.Order.{same_tree, same_leaf, less_at_most}
use Rattle.core_state.proofs.Trees.Find.{right_in, right_here, parent_here, one_high, only_wide, wide_right}
use Rattle.core_state.proofs.Trees.Grow.{IsGrow, grow_ghost}
use Rattle.core_state.proofs.Trees.Steps.{Grows, Step}
use Rattle.core_state.proofs.Trees.Growing.{Growing, Stepping}

some_key : {E : Type 0} (ks : List E) → ks ≢ [] → (k : E) × In k ks
some_key [] n = absurd (n refl)
some_key (k ∷ ks) n = (k, inl refl)

module _ {E : Type 0} (o : Order E) (bottom top : E) (N M : ℕ → Node E) (g : TreeGhost E) (S : Sane o top N g) where
  -- what a leaf shows lies within its bounds
  pub leaf_shows : (p r right : ℕ) (high : E) (ks : List E) → g.place p ≡ tree r 0 → N p ≡ leaf right high ks
      → (high ≡ g.high p) × ((k : E) → In k ks → o.less (g.low p) k × AtMost o top k (g.high p))
  leaf_shows p r right high ks e node =
      let ok = S.leaves p r e in
      let same = same_leaf _ _ _ _ _ _ (sym node ∙ ok.node) in
      (same.1, λ k m. ok.within k (subst (λ (l : List E). In k l) same.2 m))

  -- the page is divided at m, and its parent names the new page after it
  module _ (page new parent r h s i pr : ℕ) (kl kr : List (Child E)) (b m : E) (at : g.place page ≡ tree r h)
      (fresh : g.place new ≡ none) (not_zero : new ≢ 0) (placed : g.place parent ≡ tree s (suc i))
      (was_parent : N parent ≡ inner pr (kl ++ record { page = page; bound = b } ∷ kr))
      (now_parent : M parent ≡ inner pr
      (kl ++ record { page = page; bound = m } ∷ record { page = new; bound = b } ∷ kr))
      (else : (x : ℕ) → x ≢ page → x ≢ new → x ≢ parent → M x ≡ N x) where
    parent_is : (g.place parent ≡ tree r (suc h)) × (g.high page ≡ b)
    parent_is = parent_here o top N g S parent r h s i pr _ (record { page = page; bound = b }) placed was_parent
        (in_middle kl _ kr) at

    before_parent : N parent ≡ inner pr (kl ++ record { page = page; bound = g.high page } ∷ kr)
    before_parent = was_parent
        ∙ ap (λ (z : E). inner pr (kl ++ record { page = page; bound = z } ∷ kr)) (sym parent_is.1)

    after_parent : M parent
        ≡ inner pr (kl ++ record { page = page; bound = m } ∷ record { page = new; bound = g.high page } ∷ kr)
    after_parent = now_parent
        ∙ ap (λ (z : E). inner pr (kl ++ record { page = page; bound = m } ∷ record { page = new; bound = z } ∷ kr))
        (sym parent_is.1)

    pub split_leaf_nodes : h ≡ 0 → (right : ℕ) (high : E) (ks front back : List E) → N page ≡ leaf right high ks
        → M page ≡ leaf new m front → M new ≡ leaf right high back → ks ≡ front ++ back → front ≢ [] → back ≢ []
        → ((k : E) → In k front → AtMost o top k m) → ((k : E) → In k back → o.less m k)
        → Growing o bottom top N M g (split_ghost o top g page new r h m)
    split_leaf_nodes zero_h right high ks front back was now now_new whole some_front some_back at_most above = (
      Grows.split_leaf page new parent r m split
          (ap (λ (z : ℕ). split_ghost o top g page new r z m) zero_h),
      λ k. tt,
    )
      where
        at_leaf : g.place page ≡ tree r 0
        at_leaf = at ∙ ap (tree r) zero_h

        shows : (high ≡ g.high page) × ((k : E) → In k ks → o.less (g.low page) k × AtMost o top k (g.high page))
        shows = leaf_shows page r right high ks at_leaf was

        in_whole : (k : E) → In k front ⊎ In k back → In k ks
        in_whole k d = subst (λ (l : List E). In k l) (sym whole)
            (elim d [ inl i ↦ in_front k front back i | inr i ↦ in_back k front back i ])

        split : IsSplitLeaf o top N M g page new parent r m
        split = record {
          at = at_leaf;
          new = fresh;
          not_zero = not_zero;
          parent = parent_is.0 ∙ ap (λ (z : ℕ). tree r (suc z)) zero_h;
          right = right;
          keys = ks;
          front = front;
          back = back;
          before = was ∙ ap (λ (z : E). leaf right z ks) shows.0;
          after_page = now;
          after_new = now_new ∙ ap (λ (z : E). leaf right z back) shows.0;
          above = let k = some_key front some_front in
              less_at_most o top _ _ _ (shows.1 k.0 (in_whole k.0 (inl k.1))).0 (at_most k.0 k.1);
          below = let k = some_key back some_back in
              less_at_most o top _ _ _ (above k.0 k.1) (shows.1 k.0 (in_whole k.0 (inr k.1))).1;
          in_front = λ k i. (in_whole k (inl i), at_most k i);
          in_back = λ k i. (in_whole k (inr i), above k i);
          kept = λ k i. in_either k front back (subst (λ (l : List E). In k l) whole i);
          parent_right = pr;
          kids_left = kl;
          kids_right = kr;
          before_parent = before_parent;
          after_parent = after_parent;
          else = else;
        }

    divided_inner : (k : ℕ) → h ≡ suc k → (V : IsSplitInner N M g page new parent r k) → V.last.bound ≡ m
        → Growing o bottom top N M g (split_ghost o top g page new r h m)
    divided_inner k suc_h V last_is = (
      Grows.split_inner page new parent r k V (ap (λ (z : ℕ). split_ghost o top g page new r z m) suc_h
          ∙ ap (split_ghost o top g page new r (suc k)) (sym last_is)),
      λ x. tt,
    )

    pub split_inner_nodes : (k : ℕ) → h ≡ suc k → (right : ℕ) (front : List (Child E)) (last : Child E)
        (back : List (Child E)) → N page ≡ inner right (front ++ last ∷ back)
        → M page ≡ inner new (front ++ last ∷ []) → M new ≡ inner right back → back ≢ [] → last.bound ≡ m
        → Growing o bottom top N M g (split_ghost o top g page new r h m)
    split_inner_nodes k suc_h right front last back was now now_new some last_is = divided_inner k suc_h (record {
      at = at ∙ ap (tree r) suc_h;
      new = fresh;
      not_zero = not_zero;
      parent = parent_is.0 ∙ ap (λ (z : ℕ). tree r (suc z)) suc_h;
      right = right;
      front = front;
      last = last;
      back = back;
      before = was;
      some = some;
      after_page = now;
      after_new = now_new;
      parent_right = pr;
      kids_left = kl;
      kids_right = kr;
      before_parent = before_parent;
      after_parent = after_parent ∙ ap (λ (z : E). inner pr
          (kl ++ record { page = page; bound = z } ∷ record { page = new; bound = g.high page } ∷ kr)) (sym last_is);
      else = else;
    }) last_is

-- a leaf that led to the page d, and leads to another one now
pub record LedTo {E : Type 0} (N M : ℕ → Node E) (g : TreeGhost E) (d right : ℕ) : Type 0 where
  pub page : ℕ
  pub root : ℕ
  pub high : E
  pub keys : List E
  pub at : g.place page ≡ tree root 0
  pub was : N page ≡ leaf d high keys
  pub now : M page ≡ leaf right high keys

-- an empty leaf d is deleted: its parent q forgets it, and the leaf that led to it, if there is one, leads after it
module _ {E : Type 0} (o : Order E) (bottom top : E) (N M : ℕ → Node E) (g : TreeGhost E) (S : Sane o top N g)
    (d q r s i right pr : ℕ) (front back : List (Child E)) (next : Child E) (b high : E) (at : g.place d ≡ tree r 0)
    (there : d ≢ 0) (placed : g.place q ≡ tree s (suc i)) (was : N d ≡ leaf right high []) (now : M d ≡ gone right)
    (was_parent : N q ≡ inner pr (front ++ record { page = d; bound = b } ∷ next ∷ back))
    (now_parent : M q ≡ inner pr (front ++ next ∷ back)) where
  -- a leaf that leads to d is in its tree, and is one
  leads_here : (x t : ℕ) (h : E) (ks : List E) → g.place x ≡ tree t 0 → N x ≡ leaf d h ks
      → (g.place d ≡ tree t 0) × (g.low d ≡ g.high x)
  leads_here x t h ks e node =
      let ok = right_here o top N g S x t 0 e in
      let same : right_in (N x) ≡ d = ap right_in node in
      elim (subst (RightOk o top g t 0 x) same ok) [ inl z ↦ absurd (there z.0) | inr z ↦ (z.1, z.2) ]

  one_leads : (x y t : ℕ) (h k : E) (hs ks : List E) → g.place x ≡ tree r 0 → g.place y ≡ tree t 0
      → N x ≡ leaf d h hs → N y ≡ leaf d k ks → x ≡ y
  one_leads x y t h k hs ks px py nx ny =
      let a = leads_here x r h hs px nx in
      let c = leads_here y t k ks py ny in
      let root = (same_tree t r 0 0 (sym c.0 ∙ at)).0 in
      one_high o top N g S x y r 0 px (py ∙ ap (λ (z : ℕ). tree z 0) root) (sym a.1 ∙ c.1)

  deleted : (V : IsDeleteLeaf o top N M g d q r) → V.next.page ≡ next.page → (Removed : E → Type 0)
      → Stepping o bottom top N M g (delete_ghost o top g d next.page r) Removed
  deleted V e Removed = (Step.delete d q r V (ap (λ (z : ℕ). delete_ghost o top g d z r) (sym e)), λ k n. tt)

  pub delete_nodes : ((x : ℕ) (h : E) (ks : List E) → g.place x ≡ tree r 0 → N x ≡ leaf d h ks → ⊥)
      ⊎ LedTo N M g d right
      → ((x : ℕ) → x ≢ d → x ≢ q → ((h : E) (ks : List E) → N x ≡ leaf d h ks → ⊥) → M x ≡ N x)
      → (Removed : E → Type 0) → Stepping o bottom top N M g (delete_ghost o top g d next.page r) Removed
  delete_nodes left_one else Removed = deleted (record {
    at = at;
    parent = parent_is.0;
    right = right;
    before = was ∙ ap (λ (z : E). leaf right z []) (leaf_shows o bottom top N M g S d r right high [] at was).0;
    after_leaf = now;
    parent_right = pr;
    front = front;
    next = next;
    back = back;
    before_parent = was_parent
        ∙ ap (λ (z : E). inner pr (front ++ record { page = d; bound = z } ∷ next ∷ back)) (sym parent_is.1);
    after_parent = now_parent;
    left_leaf = λ x ks h px nx. leads_behind x ks h px nx left_one;
    else = else;
  }) refl Removed
    where
      parent_is : (g.place q ≡ tree r 1) × (g.high d ≡ b)
      parent_is = parent_here o top N g S q r 0 s i pr _ (record { page = d; bound = b }) placed was_parent
          (in_middle front _ (next ∷ back)) at

      leads_behind : (x : ℕ) (ks : List E) (h : E) → g.place x ≡ tree r 0 → N x ≡ leaf d h ks
          → ((x : ℕ) (h : E) (ks : List E) → g.place x ≡ tree r 0 → N x ≡ leaf d h ks → ⊥) ⊎ LedTo N M g d right
          → M x ≡ leaf right h ks
      leads_behind x ks h px nx (inl none_leads) = absurd (none_leads x h ks px nx)
      leads_behind x ks h px nx (inr l) =
          let same : x ≡ l.page = one_leads x l.page l.root h l.high ks l.keys px l.at nx l.was in
          let parts = same_leaf _ _ _ _ _ _ (sym l.was ∙ ap N (sym same) ∙ nx) in
          ap M same ∙ l.now ∙ ap₂ (leaf right) parts.1 parts.2

-- a node without its right link
abbrev pub unlinked : {E : Type 0} → Node E → Node E
unlinked other = other
unlinked (leaf right high keys) = leaf 0 high keys
unlinked (inner right kids) = inner 0 kids
unlinked (gone right) = gone right

module _ {E : Type 0} (o : Order E) (bottom top : E) (lowest : (x : E) → o.less x bottom → ⊥)
    (least : (x : E) → AtMost o top x top) (wide : o.less bottom top) (N M : ℕ → Node E) (g : TreeGhost E)
    (S : Sane o top N g) (r height : ℕ) (at_root : g.place r ≡ tree r height) (low_root : g.low r ≡ bottom)
    (high_root : g.high r ≡ top) (highest : (x h : ℕ) → g.place x ≡ tree r h → h ≤ height)
    (left_low : (x : ℕ) → g.place x ≡ left r → 1 ≤ height) where
  only_root : (x : ℕ) → g.place x ≡ tree r height → x ≡ r
  only_root = only_wide o top N g S bottom lowest least r r height at_root low_root high_root

  no_right : right_in (N r) ≡ 0
  no_right = wide_right o top N g S bottom wide r r height low_root high_root only_root (right_in (N r))
      (right_here o top N g S r r height at_root)

  no_higher : (x : ℕ) → g.place x ≡ tree r (suc height) → ⊥
  no_higher x e = let h = highest x (suc height) e in absurd (omega (arith, h))

  not_low : (x : ℕ) → g.place x ≡ left r → height ≢ 0
  not_low x e z = let l = left_low x e in absurd (omega (arith, l, z))

  -- the root's content moves to the new page, which becomes its one child
  pub grow_nodes : (new : ℕ) → g.place new ≡ none → new ≢ 0
      → M r ≡ inner (right_in (N r)) (record { page = new; bound = top } ∷ []) → M new ≡ unlinked (N r)
      → ((x : ℕ) → x ≢ r → x ≢ new → M x ≡ N x)
      → Growing o bottom top N M g (grow_ghost g bottom top r new height)
  grow_nodes new fresh not_zero now now_new else = (Grows.grow r new height grown refl, λ k. tt)
    where
      grown : IsGrow N M g bottom top r new height
      grown = record {
        at = at_root;
        new = fresh;
        not_zero = not_zero;
        low_root = low_root;
        high_root = high_root;
        only_root = only_root;
        no_higher = no_higher;
        no_left = not_low;
        root_after = now ∙ ap (λ (z : ℕ). inner z (record { page = new; bound = top } ∷ [])) no_right;
        new_leaf = λ right high ks e. now_new ∙ ap unlinked e;
        new_inner = λ right cs e. now_new ∙ ap unlinked e;
        else = else;
      }
