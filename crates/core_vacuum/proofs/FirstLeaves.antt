-- The leaves of the trees of a legal log, by the places and bounds of their pages.
use Rattle.std.proofs.Common.{◌≡◌, ◌≢◌, ◌<◌, ℕ, List, [], ◌∷◌, map, length, refl, sym, ap, subst, ◌∙◌, inl, inr}
use Rattle.std.proofs.Common.{arith}
use Rattle.ts_base.specs.Keys.{Key}
use Rattle.page_types.specs.Keys.{KeyLess}
use Rattle.page_types.specs.declared.page.EntryChild.{EntryChild}
use Rattle.page_types.specs.declared.page.PostChild.{PostChild}
use Rattle.page_types.specs.declared.page.Body.TheVariants as body
use Rattle.core_state.specs.Log.{Log, Pages, Shows, commits}
use Rattle.core_state.specs.Index.{IsNamed, Below}
use Rattle.core_state.specs.TreeRules.{Toward, TowardItem, IsRoot, IsLeftLeaf}
use Rattle.core_state.specs.PagesTold.{IsEntryLeaf, OnEntryLeaf, UpEntryLeaf, IsPostLeaf, OnPostLeaf, UpPostLeaf}
use Rattle.core_state.specs.PagesTold.{PagesTold}
use Rattle.core_state.specs.Trees.Ext.{Ext, ext_less}
use Rattle.core_state.specs.Trees.Ext.Ext.{least, at, greatest}
use Rattle.core_state.specs.Trees.Nodes.TreePlace.{tree}
use Rattle.core_state.specs.Trees.TreeNodes.{entry_child, entry_nodes, post_child, post_nodes}
use Rattle.core_state.specs.Inner.Ghosts.{Ghost, entry_place, post_place, entry_ghost, post_ghost}
use Rattle.core_state.specs.Inner.Ghosts.Place.{entry, post}
use Rattle.core_state.proofs.Trees.Order.{tree_not_none}
use Rattle.core_state.proofs.Trees.Orders.{keys, items}
use Rattle.core_state.proofs.Trees.Find.{right_in, right_here, kids_here}
use Rattle.core_state.proofs.Trees.EntryViews as entries
use Rattle.core_state.proofs.Trees.PostViews as posts
use Rattle.core_state.proofs.Law.Invariant.{Inv}
use Rattle.core_state.proofs.Law.Places.{place_for}
use Rattle.core_state.proofs.Law.Belows.{below_place}
use Rattle.core_state.proofs.Law.Bounded.{posts_hold, tree_of}
use Rattle.core_state.proofs.Law.Lists.{zero_place}
use Rattle.core_state.proofs.Law.OneStep.{page_0}
use Rattle.core_state.proofs.Law.AllCases.{all_steps}
use Rattle.core_state.proofs.Law.Runs.{plain_run}
use Rattle.core_state.proofs.LawsHold.{pages}
use Rattle.core_maintenance.proofs.Ways.{toward_item_below}
use Rattle.core_vacuum.specs.Leaves.{IsFirst, LeavesStand, LeavesHold}
use Rattle.core_vacuum.proofs.Covers.{cover, entry_up_or_not, post_up_or_not, entry_last, post_last}

no_less : {A : Type 0} (less : A → A → Type 0) (x : Ext A) → ext_less less x least → ⊥
no_less less least l = l
no_less less (at a) l = l
no_less less greatest l = l

-- no key is below the one without bytes
none_below : (k : Key) → KeyLess k [] → ⊥
none_below [] l = cc
none_below (b ∷ bs) l = cc

entry_not_post : (h r i : ℕ) → entry h ≡ post r i → ⊥
entry_not_post h r i e = cc

module _ (n L : ℕ) (R : Log) (P : Pages) (g : Ghost) (v : Inv n L R P g) (shown : Shows R P) where
  -- the first child of a page begins where the page does
  entry_low : (p : ℕ) (c : EntryChild) (cs : List EntryChild) → (P p).body ≡ body.EntryInner (c ∷ cs)
      → g.low_key c.page ≡ g.low_key p
  entry_low p c cs is =
      let place = place_for L (g.place p) (P p) (body.EntryInner (c ∷ cs)) (v.kinds p) is in
      (kids_here keys greatest (entry_nodes P) (entry_ghost g) v.entries p 1 place.0 (P p).right
      (map entry_child (c ∷ cs)) (ap entry_place place.1) (entries.inner_node (P p) (c ∷ cs) is)).1

  post_low : (p : ℕ) (c : PostChild) (cs : List PostChild) → (P p).body ≡ body.PostInner (c ∷ cs)
      → g.low_item c.page ≡ g.low_item p
  post_low p c cs is =
      let place = place_for L (g.place p) (P p) (body.PostInner (c ∷ cs)) (v.kinds p) is in
      (kids_here items greatest (post_nodes P) (post_ghost g) v.posts p place.0 place.1 (P p).right
      (map post_child (c ∷ cs)) (ap post_place place.2) (posts.inner_node (P p) (c ∷ cs) is)).1

  -- so the way of the least key keeps to where the root begins
  entry_way : (p q : ℕ) → Toward P [] p q → g.low_key q ≡ g.low_key p
  entry_way p q Toward.here = refl
  entry_way p q (Toward.down [] back c is low up rest) = entry_way c.page q rest ∙ entry_low p c back is
  entry_way p q (Toward.down (b ∷ front) back c is low up rest) = absurd (none_below b.bound (low b (inl refl)))

  post_way : (p q : ℕ) → TowardItem P 0 p q → g.low_item q ≡ g.low_item p
  post_way p q TowardItem.here = refl
  post_way p q (TowardItem.down [] back c is low up rest) = post_way c.page q rest ∙ post_low p c back is
  post_way p q (TowardItem.down (b ∷ front) back c is low up rest) =
      absurd (let l = low b (inl refl) in omega (arith, l))

  -- places of leaves
  entry_at : (p : ℕ) → IsEntryLeaf P p → entry_place (g.place p) ≡ tree 1 0
  entry_at p l = ap entry_place (place_for L (g.place p) (P p) (body.EntryLeaf l.0 l.1) (v.kinds p) l.2)

  post_at : (root p : ℕ) → IsRoot P root → IsPostLeaf P root p → post_place (g.place p) ≡ tree root 0
  post_at root p is l = ap post_place (tree_of n L R P g v shown root p l.1.0 l.1.1 is l.0 l.1.2)

  entry_not_zero : IsEntryLeaf P 0 → ⊥
  entry_not_zero l = tree_not_none 1 0 (sym (entry_at 0 l) ∙ (zero_place g (page_0 n L R P g v shown)).0)

  post_not_zero : (root : ℕ) → IsRoot P root → IsPostLeaf P root 0 → ⊥
  post_not_zero root is l =
      tree_not_none root 0 (sym (post_at root 0 is l) ∙ (zero_place g (page_0 n L R P g v shown)).1)

  -- no leaf leads to one that begins with the least
  entry_none : (p q : ℕ) → IsEntryLeaf P p → g.low_key p ≡ least → IsEntryLeaf P q → (P q).right ≡ p → ⊥
  entry_none p q lp low lq e =
      let right : right_in (entry_nodes P q) ≡ p = ap right_in (entries.leaf_node (P q) lq.0 lq.1 lq.2) ∙ e in
      elim (right_here keys greatest (entry_nodes P) (entry_ghost g) v.entries q 1 0 (entry_at q lq)) [
        | inl z ↦ entry_not_zero (subst (IsEntryLeaf P) (sym right ∙ z.0) lp)
        | inr z ↦ no_less KeyLess (g.low_key q) (subst (λ (x : Ext Key). ext_less KeyLess (g.low_key q) x)
            (sym z.2 ∙ ap g.low_key right ∙ low) (v.entries.span q 1 0 (entry_at q lq)))
      ]

  -- a leaf that leads to one of a posting tree is one of the tree, and that one begins where it ends
  module _ (root p q : ℕ) (is : IsRoot P root) (lp : IsPostLeaf P root p) (left : IsLeftLeaf P q p) where
    at_q : (r : ℕ) × (g.place q ≡ post r 0)
    at_q = place_for L (g.place q) (P q) (body.PostLeaf left.high left.items) (v.kinds q) left.body_is

    right_is : right_in (post_nodes P q) ≡ p
    right_is = ap right_in (posts.leaf_node (P q) left.high left.items left.body_is) ∙ left.link

    both : (g.place q ≡ post root 0) × (g.low_item p ≡ g.high_item q)
    both = elim (right_here items greatest (post_nodes P) (post_ghost g) v.posts q at_q.0 0 (ap post_place at_q.1)) [
      | inl z ↦ absurd (post_not_zero root is (subst (IsPostLeaf P root) (sym right_is ∙ z.0) lp))
      | inr z ↦ (
        at_q.1 ∙ ap (λ (r : ℕ). post r 0) (same_root at_q.0 root
            (sym z.1 ∙ ap (λ (x : ℕ). post_place (g.place x)) right_is ∙ post_at root p is lp)),
        sym (ap g.low_item right_is) ∙ z.2,
      )
    ]
      where
        same_root : (a b : ℕ) → tree a 0 ≡ tree b 0 → a ≡ b
        same_root a b e = cc

    left_leaf : IsPostLeaf P root q
    left_leaf = (
      below_place L P g (posts_hold n L R P g v) q root 0 both.0,
      (left.high, left.items, left.body_is),
    )

    not_least : g.low_item p ≡ least → ⊥
    not_least low = no_less (λ (i j : ℕ). i < j) (g.low_item q)
        (subst (λ (x : Ext ℕ). ext_less (λ (i j : ℕ). i < j) (g.low_item q) x) (sym both.1 ∙ low)
        (v.posts.span q root 0 (ap post_place both.0)))

  module _ (some : R ≢ []) (each : PagesTold R P) where
    top : (h : ℕ) × (g.place 1 ≡ entry h)
    top = v.starts.page_1 some

    root : (k : Key) (r : ℕ) → IsNamed P k r → (h : ℕ) × (g.place r ≡ post r h)
    root k r named = v.named.is_root named.page r named.entry named.on named.names

    not_first : (k : Key) (r : ℕ) → IsNamed P k r → r ≢ 1
    not_first k r named e =
        let t = root k r named in
        entry_not_post top.0 r t.0 (sym top.1 ∙ ap g.place (sym e) ∙ t.1)

    first_post : (k : Key) (r p high : ℕ) (is : List ℕ) → IsNamed P k r → TowardItem P 0 r p
        → (P p).body ≡ body.PostLeaf high is → IsPostLeaf P r p × IsFirst P (IsPostLeaf P r) p
    first_post k r p high is named way b =
        let t = root k r named in
        let here : IsPostLeaf P r p = (toward_item_below P r 0 r p Below.root way, (high, is, b)) in (
          here,
          λ q l e. not_least r p q (IsRoot.of_postings k named) here
              (record { high = l.1.0; items = l.1.1; body_is = l.1.2; link = e })
              (post_way r p way ∙ v.posts_rooted.low r t.0 (ap post_place t.1)),
        )

    pub stand : LeavesStand P
    stand = record {
      entries = cover P (IsEntryLeaf P) (OnEntryLeaf P) (UpEntryLeaf P) (each.bounds.entry_leaves some)
          entry_not_zero (entry_up_or_not P) (entry_last P (λ p. (shown p).0));
      postings = λ k r named.
          let is = IsRoot.of_postings k named in
          cover P (IsPostLeaf P r) (OnPostLeaf P) (UpPostLeaf P)
          (each.bounds.post_leaves r is (not_first k r named)) (post_not_zero r is) (post_up_or_not P r)
          (post_last P (λ p. (shown p).0) r);
      first = λ p way l q. entry_none p q l
          (entry_way 1 p way ∙ v.entries_rooted.low 1 top.0 (ap entry_place top.1));
      first_post = first_post;
      left = λ k r p q named lp l. left_leaf r p q (IsRoot.of_postings k named) lp l;
    }

pub leaves_hold : LeavesHold
leaves_hold R P some legal shown =
    let held = plain_run all_steps R legal.valid P shown in
    stand (commits R) (length R) R P held.0 held.1 shown some (pages R P legal shown)
