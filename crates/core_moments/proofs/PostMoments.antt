-- Over the moments past a pin what a page of a posting tree links to is in the tree, live or deleted, and stays in it.
use Rattle.std.proofs.Common.{◌≡◌, ◌≢◌, ◌≤◌, ◌+◌, ◌-◌, ℕ, zero, suc, List, [], ◌∷◌, length, ap, subst, ◌∙◌}
use Rattle.std.proofs.Common.{inl, inr, arith}
use Rattle.page_types.specs.Views.{entries_of}
use Rattle.page_types.specs.declared.page.Entry.{Entry}
use Rattle.page_types.specs.declared.page.Postings.TheVariants.{Root}
use Rattle.core_state.specs.Log.{Log, Pages, In, cut}
use Rattle.core_state.specs.Legal.{IsLegal, Pin, Keeps}
use Rattle.core_state.specs.Trees.Ext.{Ext}
use Rattle.core_state.specs.Trees.Ext.Ext.{least, greatest}
use Rattle.core_state.specs.Trees.Nodes as nodes
use Rattle.core_state.specs.Trees.Nodes.{Child, Node, TreeGhost, RightOk, Kids}
use Rattle.core_state.specs.Trees.Nodes.TreePlace.{none, tree}
use Rattle.core_state.specs.Trees.TreeNodes.{post_node}
use Rattle.core_state.specs.Inner.Ghosts.{Place, Ghost, post_place, post_ghost}
use Rattle.core_state.specs.Inner.Ghosts.Place.{unused, meta, heap, line, past, shifted, left, entry, post, overflow_of}
use Rattle.core_state.specs.Inner.Ghosts.Place.{private_of}
use Rattle.core_state.specs.Inner.Kinds.{Fits}
use Rattle.core_state.proofs.Law.Lists.{zero_place}
use Rattle.core_state.proofs.Law.OneStep.{page_0}
use Rattle.core_state.proofs.Moments.Timeline.{Timeline}
use Rattle.core_state.proofs.Trees.Forward.{HasChild, LinksTo}
use Rattle.core_state.proofs.Trees.MainWalk.{Run, run_stays}
use Rattle.core_state.proofs.Trees.Orders.{items, ext_top, nat_order}
use Rattle.core_state.proofs.Trees.Walk.{IsIn}
use Rattle.core_moments.specs.OpenLaws.{IsPostingPage}
use Rattle.core_moments.proofs.TreeMoments as moments

-- ── places ──

post_is : (x : Place) (r h : ℕ) → post_place x ≡ tree r h → x ≡ post r h
post_is (post s k) r h e = cc
post_is unused r h e = absurd (cc)
post_is meta r h e = absurd (cc)
post_is heap r h e = absurd (cc)
post_is line r h e = absurd (cc)
post_is past r h e = absurd (cc)
post_is shifted r h e = absurd (cc)
post_is (left s) r h e = absurd (cc)
post_is (entry k) r h e = absurd (cc)
post_is (overflow_of i) r h e = absurd (cc)
post_is (private_of i) r h e = absurd (cc)

left_is : (x : Place) (r : ℕ) → post_place x ≡ nodes.TreePlace.left r → x ≡ left r
left_is (left s) r e = cc
left_is unused r e = absurd (cc)
left_is meta r e = absurd (cc)
left_is heap r e = absurd (cc)
left_is line r e = absurd (cc)
left_is past r e = absurd (cc)
left_is shifted r e = absurd (cc)
left_is (post s k) r e = absurd (cc)
left_is (entry k) r e = absurd (cc)
left_is (overflow_of i) r e = absurd (cc)
left_is (private_of i) r e = absurd (cc)

kid_place : (g : TreeGhost (Ext ℕ)) (r h : ℕ) (lo hi : Ext ℕ) (cs : List (Child (Ext ℕ))) (q : ℕ)
    → Kids items greatest g r h lo cs hi → HasChild cs q → g.place q ≡ tree r h
kid_place g r h lo hi [] q k c = absurd c
kid_place g r h lo hi (c ∷ cs) q k (inl e) = ap g.place e ∙ k.0
kid_place g r h lo hi (c ∷ cs) q k (inr i) = kid_place g r h c.bound hi cs q k.3 i

-- ── the moments ──

module _ (R : Log) (pin : Pin) (legal : IsLegal R) (keeps : Keeps R pin) where
  abbrev pub P : ℕ → Pages
  P = moments.P R pin legal keeps

  abbrev pub g : ℕ → Ghost
  g = moments.g R pin legal keeps

  abbrev pub T : Timeline pin pin.length R P g
  T = moments.T R pin legal keeps

  nil : (t : ℕ) → pin.length ≤ t → t ≤ length R → (post_ghost (g t)).place 0 ≡ none
  nil t a b =
      (zero_place (g t) (page_0 pin.commits pin.length (cut t R) (P t) (g t) (T.inv t a b) (T.shown t a b))).1

  run : Run items least greatest (λ t p. post_node (P t p)) (λ t. post_ghost (g t)) pin.length (length R)
  run = record {
    first = (T.inv pin.length (omega arith) keeps.within).posts;
    zero_page = nil pin.length (omega arith) keeps.within;
    steps = λ t a b. (T.case t a b).2.trees.posts.0;
  }

  -- the page is in the tree with this root, or was deleted from it
  abbrev pub InTree : ℕ → ℕ → ℕ → Type 0
  InTree t r p = IsIn (post_ghost (g t)) r p

  -- it stays there
  in_more : (d t r p : ℕ) → pin.length ≤ t → t + d ≤ length R → InTree t r p → InTree (t + d) r p
  in_more zero t r p a b i = subst (λ (s : ℕ). InTree s r p) (let f : t ≡ t + 0 = omega arith in f) i
  in_more (suc d) t r p a b i =
      let next : InTree (t + 1) r p = (run_stays items least greatest (ext_top nat_order) tt (λ u q. post_node (P u q))
      (λ u. post_ghost (g u)) pin.length (length R) run r t p a (omega (arith, b)) i).0 in
      subst (λ (s : ℕ). InTree s r p) (let f : t + 1 + d ≡ t + suc d = omega arith in f)
      (in_more d (t + 1) r p (omega (arith, a)) (omega (arith, b)) next)

  pub in_to : (t u r p : ℕ) → pin.length ≤ t → t ≤ u → u ≤ length R → InTree t r p → InTree u r p
  in_to t u r p a b c i = subst (λ (s : ℕ). InTree s r p) (let f : t + (u - t) ≡ u = omega (arith, b) in f)
      (in_more (u - t) t r p a (omega (arith, b, c)) i)

  -- a root that an entry names
  pub root_in : (t p r : ℕ) (e : Entry) → pin.length ≤ t → t ≤ length R → In e (entries_of (P t p))
      → e.postings ≡ Root r → InTree t r r
  root_in t p r e a b on is =
      let named = (T.inv t a b).named.is_root p r e on is in
      inl (named.0, ap post_place named.1)

  -- what a page of the tree links to
  module _ (t r p : ℕ) (a : pin.length ≤ t) (b : t ≤ length R) where
    right_on : (q h right : ℕ) → q ≢ 0 → RightOk items greatest (post_ghost (g t)) r h p right → q ≡ right
        → InTree t r q
    right_on q h right off (inl z) f = absurd (off (f ∙ z.0))
    right_on q h right off (inr z) f = inl (h, ap (post_ghost (g t)).place f ∙ z.1)

    live_link : (q h : ℕ) → (post_ghost (g t)).place p ≡ tree r h → LinksTo (post_node (P t p)) q → q ≢ 0
        → InTree t r q
    live_link q zero here l off =
        let ok = (T.inv t a b).posts.leaves p r here in
        right_on q 0 ok.right off ok.right_ok (subst (λ (z : Node (Ext ℕ)). LinksTo z q) ok.node l)
    live_link q (suc h) here l off =
        let ok = (T.inv t a b).posts.inners p r h here in
        elim (subst (λ (z : Node (Ext ℕ)). LinksTo z q) ok.node l) [
          | inl f ↦ right_on q (suc h) ok.right off ok.right_ok f
          | inr c ↦ inl (
            h,
            kid_place (post_ghost (g t)) r h ((g t).low_item p) ((g t).high_item p) ok.kids q ok.kids_ok c,
          )
        ]

    pub post_link : (q : ℕ) → InTree t r p → LinksTo (post_node (P t p)) q → q ≢ 0 → InTree t r q
    post_link q (inl live) l off = live_link q live.0 live.1 l off
    post_link q (inr was) l off =
        let ok = (T.inv t a b).posts.lefts p r was in
        let f : q ≡ ok.right = subst (λ (z : Node (Ext ℕ)). LinksTo z q) ok.node l in
        elim ok.leads [
          | inl z ↦ inl (0, ap (post_ghost (g t)).place f ∙ z)
          | inr z ↦ inr (ap (post_ghost (g t)).place f ∙ z)
        ]

    -- and what it is
    live_is : (h : ℕ) → (post_ghost (g t)).place p ≡ tree r h → IsPostingPage (P t p)
    live_is zero here =
        let f : Fits pin.length (post r zero) (P t p) =
        subst (λ (x : Place). Fits pin.length x (P t p)) (post_is ((g t).place p) r 0 here) ((T.inv t a b).kinds p) in
        inl (f.0, f.1, inl f.2)
    live_is (suc h) here =
        let f : Fits pin.length (post r (suc h)) (P t p) =
        subst (λ (x : Place). Fits pin.length x (P t p)) (post_is ((g t).place p) r (suc h) here)
        ((T.inv t a b).kinds p) in
        inr (f.0, f.1)

    pub is_posting : InTree t r p → IsPostingPage (P t p)
    is_posting (inl live) = live_is live.0 live.1
    is_posting (inr was) =
        let f : Fits pin.length (left r) (P t p) =
        subst (λ (x : Place). Fits pin.length x (P t p)) (left_is ((g t).place p) r was) ((T.inv t a b).kinds p) in
        inl (f.0, [], inr f.1)
