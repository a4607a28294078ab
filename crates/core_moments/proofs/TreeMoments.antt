-- Over the moments past a pin what a page of the entry tree links to is in the tree, and stays there; a leaf that comes
-- after another stays a leaf.
use Rattle.std.proofs.Common.{◌≡◌, ◌≢◌, ◌⊎◌, ◌≤◌, ◌+◌, ◌-◌, ℕ, zero, suc, Bool, false, cond, List, [], ◌∷◌, length}
use Rattle.std.proofs.Common.{refl, sym, ap, subst, ◌∙◌, inl, inr, arith}
use Rattle.ts_base.specs.Keys.{Key}
use Rattle.page_types.specs.Views.{free_page}
use Rattle.core_state.specs.Log.{Log, Pages, Shows, cut}
use Rattle.core_state.specs.Legal.{IsLegal, RecordsAreValid, Pin, Keeps}
use Rattle.core_state.specs.Trees.Ext.{Ext}
use Rattle.core_state.specs.Trees.Ext.Ext.{least, at, greatest}
use Rattle.core_state.specs.Trees.Nodes.{Child, Node, TreeGhost, RightOk, Kids}
use Rattle.core_state.specs.Trees.Nodes.TreePlace.{none, tree}
use Rattle.core_state.specs.Trees.TreeNodes.{entry_node, entry_nodes}
use Rattle.core_state.specs.Inner.Ghosts.{Place, Ghost, entry_place, entry_ghost}
use Rattle.core_state.specs.Inner.Ghosts.Place.{entry}
use Rattle.core_state.specs.Inner.Kinds.{Fits}
use Rattle.core_state.proofs.Law.AllCases.{all_steps}
use Rattle.core_state.proofs.Law.Lists.{zero_place}
use Rattle.core_state.proofs.Law.OneStep.{page_0}
use Rattle.core_state.proofs.Law.TreeFields.{entry_is}
use Rattle.core_state.proofs.Moments.Listed.{ListedMoments, listed_moments}
use Rattle.core_state.proofs.Moments.Phases.{cut_length, cut_some}
use Rattle.core_state.proofs.Moments.Timeline.{Timeline}
use Rattle.core_state.proofs.Showing.{shown_one, none_yet, shown_none}
use Rattle.core_state.proofs.Trees.EntryWalk as e
use Rattle.core_state.proofs.Trees.Forward.{HasChild, LinksTo}
use Rattle.core_state.proofs.Trees.Order.{tree_not_none}
use Rattle.core_state.proofs.Trees.Orders.{keys, key_order, ext_top}
use Rattle.core_state.proofs.Trees.Steps.{grows_live, grows_level}
use Rattle.core_moments.specs.Walk.{toward}
use Rattle.core_moments.specs.OpenLaws.{IsLeaf, IsOfTree}
use Rattle.core_moments.proofs.Views.{toward_same}
use Rattle.core_moments.proofs.Words.{upto, not_upto}

pub some_pages : (R : Log) → RecordsAreValid R → (P : Pages) × Shows R P
some_pages [] v = (none_yet, shown_none)
some_pages (r ∷ R) v = (v.1.after, v.1.shown_after)

pub none_or_some : (n : ℕ) → (n ≡ 0) ⊎ (1 ≤ n)
none_or_some zero = inl refl
none_or_some (suc n) = inr (omega arith)

-- ── one page ──

-- what is above something is above the least
above_least : (x y : Ext Key) → keys.less x y → keys.less least y
above_least x least l = absurd l
above_least x (at k) l = tt
above_least x greatest l = tt

kid_place : (g : TreeGhost (Ext Key)) (h : ℕ) (lo hi : Ext Key) (cs : List (Child (Ext Key))) (q : ℕ)
    → Kids keys greatest g 1 h lo cs hi → HasChild cs q → g.place q ≡ tree 1 h
kid_place g h lo hi [] q k c = absurd c
kid_place g h lo hi (c ∷ cs) q k (inl e) = ap g.place e ∙ k.0
kid_place g h lo hi (c ∷ cs) q k (inr i) = kid_place g h c.bound hi cs q k.3 i

right_there : (g : TreeGhost (Ext Key)) (h p right : ℕ) (k : Key) → RightOk keys greatest g 1 h p right
    → keys.less (g.high p) (at k) → right ≢ 0
right_there g h p right k (inl z) l = absurd (subst (λ (y : Ext Key). keys.less y (at k)) z.1 l)
right_there g h p right k (inr z) l = z.0

-- among the children and the right link there is one for each key
module _ (g : TreeGhost (Ext Key)) (nil : g.place 0 ≡ none) (h right : ℕ) (k : Key) where
  child_or : (c : Child (Ext Key)) (rest : ℕ) → g.place c.page ≡ tree 1 h
      → (upto (at k) c.bound ≡ false → rest ≢ 0) → cond (upto (at k) c.bound) c.page rest ≢ 0
  child_or c rest there else z = elim (e.known (upto (at k) c.bound)) [
    | inl f ↦ tree_not_none 1 h
        (sym there ∙ ap g.place (sym (ap (λ (b : Bool). cond b c.page rest) f) ∙ z) ∙ nil)
    | inr f ↦ else f (sym (ap (λ (b : Bool). cond b c.page rest) f) ∙ z)
  ]

  next_among : (lo hi : Ext Key) (cs : List (Child (Ext Key))) → Kids keys greatest g 1 h lo cs hi
      → keys.less lo (at k) → (keys.less hi (at k) → right ≢ 0) → e.child_of upto right (at k) cs ≢ 0
  next_among lo hi [] ok low off = off (subst (λ (y : Ext Key). keys.less y (at k)) ok low)
  next_among lo hi (c ∷ cs) ok low off =
      child_or c (e.child_of upto right (at k) cs) ok.0
      (λ f. next_among c.bound hi cs ok.3 (not_upto (at k) c.bound f) off)

  next_there : (lo hi : Ext Key) (cs : List (Child (Ext Key))) → Kids keys greatest g 1 h lo cs hi
      → keys.less lo hi → (keys.less hi (at k) → right ≢ 0) → e.child_of upto right (at k) cs ≢ 0
  next_there lo hi [] ok span off = absurd (keys.irrefl hi (subst (λ (y : Ext Key). keys.less y hi) ok span))
  next_there lo hi (c ∷ cs) ok span off =
      child_or c (e.child_of upto right (at k) cs) ok.0
      (λ f. next_among c.bound hi cs ok.3 (not_upto (at k) c.bound f) off)

-- ── the moments ──

module _ (R : Log) (pin : Pin) (legal : IsLegal R) (keeps : Keeps R pin) where
  pub at_end : (P : Pages) × Shows R P
  at_end = some_pages R legal.valid

  pub M : ListedMoments pin R at_end.0
  M = listed_moments all_steps pin R keeps.each keeps.within at_end.0 at_end.1

  abbrev pub P : ℕ → Pages
  P = M.moments.pages

  abbrev pub g : ℕ → Ghost
  g = M.moments.ghosts

  abbrev pub T : Timeline pin pin.length R M.moments.pages M.moments.ghosts
  T = M.moments.timeline

  nil : (t : ℕ) → pin.length ≤ t → t ≤ length R → (entry_ghost (g t)).place 0 ≡ none
  nil t a b =
      (zero_place (g t) (page_0 pin.commits pin.length (cut t R) (P t) (g t) (T.inv t a b) (T.shown t a b))).0

  no_log : (S : Log) → length S ≡ 0 → S ≡ []
  no_log [] h = refl
  no_log (r ∷ S) h = absurd (omega (arith, h))

  -- before the first record all pages are free
  pub all_free : (t p : ℕ) → pin.length ≤ t → t ≤ length R → t ≡ 0 → P t p ≡ free_page
  all_free t p a b e = ap (λ (z : Pages). z p) (shown_one [] (P t) none_yet
      (subst (λ (S : Log). Shows S (P t)) (no_log (cut t R) (cut_length R t b ∙ e)) (T.shown t a b)) shown_none)

  -- the page is in the entry tree at this moment
  pub record OnTree (t p : ℕ) : Type 0 where
    pub height : ℕ
    pub at : (entry_ghost (g t)).place p ≡ tree 1 height

  -- it is a leaf that comes after another
  pub record OnLeaf (t p : ℕ) : Type 0 where
    pub at : (entry_ghost (g t)).place p ≡ tree 1 0
    pub low : keys.less least ((g t).low_key p)

  -- from the first record on page 1 is the root
  pub root_on : (t : ℕ) → pin.length ≤ t → 1 ≤ t → t ≤ length R → OnTree t 1
  root_on t a some b =
      let k = (T.inv t a b).starts.page_1 (cut_some R t some b) in
      record { height = k.0; at = ap entry_place k.1 }

  -- both stay
  tree_more : (d t p : ℕ) → pin.length ≤ t → t + d ≤ length R → OnTree t p → OnTree (t + d) p
  tree_more zero t p a b o = subst (λ (s : ℕ). OnTree s p) (let f : t ≡ t + 0 = omega arith in f) o
  tree_more (suc d) t p a b o =
      let live = grows_live keys least greatest (ext_top key_order) tt (entry_nodes (P t)) (entry_nodes (P (t + 1)))
      (entry_ghost (g t)) (T.inv t a (omega (arith, b))).entries (nil t a (omega (arith, b)))
      (entry_ghost (g (t + 1))) (T.case t a (omega (arith, b))).2.trees.entries.0 p 1 o.height o.at in
      let next : OnTree (t + 1) p = record { height = live.0.0; at = live.0.1 } in
      subst (λ (s : ℕ). OnTree s p) (let f : t + 1 + d ≡ t + suc d = omega arith in f)
      (tree_more d (t + 1) p (omega (arith, a)) (omega (arith, b)) next)

  pub tree_to : (t u p : ℕ) → pin.length ≤ t → t ≤ u → u ≤ length R → OnTree t p → OnTree u p
  tree_to t u p a b c o = subst (λ (s : ℕ). OnTree s p) (let f : t + (u - t) ≡ u = omega (arith, b) in f)
      (tree_more (u - t) t p a (omega (arith, b, c)) o)

  leaf_more : (d t p : ℕ) → pin.length ≤ t → t + d ≤ length R → OnLeaf t p → OnLeaf (t + d) p
  leaf_more zero t p a b o = subst (λ (s : ℕ). OnLeaf s p) (let f : t ≡ t + 0 = omega arith in f) o
  leaf_more (suc d) t p a b o =
      let live = grows_level keys least greatest (ext_top key_order) tt (entry_nodes (P t)) (entry_nodes (P (t + 1)))
      (entry_ghost (g t)) (T.inv t a (omega (arith, b))).entries (nil t a (omega (arith, b)))
      (entry_ghost (g (t + 1))) (T.case t a (omega (arith, b))).2.trees.entries.0 p 1 0 o.at o.low in
      let next : OnLeaf (t + 1) p = record {
        at = live.0;
        low = subst (λ (y : Ext Key). keys.less least y) (sym live.1) o.low;
      } in
      subst (λ (s : ℕ). OnLeaf s p) (let f : t + 1 + d ≡ t + suc d = omega arith in f)
      (leaf_more d (t + 1) p (omega (arith, a)) (omega (arith, b)) next)

  pub leaf_to : (t u p : ℕ) → pin.length ≤ t → t ≤ u → u ≤ length R → OnLeaf t p → OnLeaf u p
  leaf_to t u p a b c o = subst (λ (s : ℕ). OnLeaf s p) (let f : t + (u - t) ≡ u = omega (arith, b) in f)
      (leaf_more (u - t) t p a (omega (arith, b, c)) o)

  -- what a page of the tree links to
  module _ (t p : ℕ) (a : pin.length ≤ t) (b : t ≤ length R) where
    pub tree_link : (q : ℕ) → OnTree t p → LinksTo (entry_node (P t p)) q → q ≢ 0 → OnTree t q
    tree_link q o l off = go o.height o.at
      where
        right_on : (h right : ℕ) → RightOk keys greatest (entry_ghost (g t)) 1 h p right → q ≡ right → OnTree t q
        right_on h right (inl z) f = absurd (off (f ∙ z.0))
        right_on h right (inr z) f = record { height = h; at = ap (entry_ghost (g t)).place f ∙ z.1 }

        go : (h : ℕ) → (entry_ghost (g t)).place p ≡ tree 1 h → OnTree t q
        go zero here =
            let ok = (T.inv t a b).entries.leaves p 1 here in
            right_on 0 ok.right ok.right_ok (subst (λ (z : Node (Ext Key)). LinksTo z q) ok.node l)
        go (suc h) here =
            let ok = (T.inv t a b).entries.inners p 1 h here in
            elim (subst (λ (z : Node (Ext Key)). LinksTo z q) ok.node l) [
              | inl f ↦ right_on (suc h) ok.right ok.right_ok f
              | inr c ↦ record {
                height = h;
                at = kid_place (entry_ghost (g t)) h ((g t).low_key p) ((g t).high_key p) ok.kids q ok.kids_ok c;
              }
            ]

    pub leaf_link : (q : ℕ) → (entry_ghost (g t)).place p ≡ tree 1 0 → LinksTo (entry_node (P t p)) q → q ≢ 0
        → OnLeaf t q
    leaf_link q here l off =
        let ok = (T.inv t a b).entries.leaves p 1 here in
        go ok.right ok.right_ok (subst (λ (z : Node (Ext Key)). LinksTo z q) ok.node l)
      where
        go : (right : ℕ) → RightOk keys greatest (entry_ghost (g t)) 1 0 p right → q ≡ right → OnLeaf t q
        go right (inl z) f = absurd (off (f ∙ z.0))
        go right (inr z) f = record {
          at = ap (entry_ghost (g t)).place f ∙ z.1;
          low = subst (λ (y : Ext Key). keys.less least y) (sym (ap (g t).low_key f ∙ z.2))
              (above_least ((g t).low_key p) ((g t).high_key p) ((T.inv t a b).entries.span p 1 0 here));
        }

    -- and what it is
    pub is_leaf : (entry_ghost (g t)).place p ≡ tree 1 0 → IsLeaf (P t p)
    is_leaf here =
        let f : Fits pin.length (entry 0) (P t p) =
        subst (λ (x : Place). Fits pin.length x (P t p)) (entry_is ((g t).place p) 1 0 here) ((T.inv t a b).kinds p)
        in
        (f.0, f.1, f.2)

    leads_on : (h : ℕ) → (entry_ghost (g t)).place p ≡ tree 1 (suc h) → (k : Key) → toward k (P t p) ≢ 0
    leads_on h here k z =
        let ok = (T.inv t a b).entries.inners p 1 h here in
        next_there (entry_ghost (g t)) (nil t a b) h ok.right k ((g t).low_key p) ((g t).high_key p) ok.kids ok.kids_ok
        ((T.inv t a b).entries.span p 1 (suc h) here)
        (right_there (entry_ghost (g t)) (suc h) p ok.right k ok.right_ok)
        (sym (ap (e.toward upto (at k)) ok.node) ∙ sym (toward_same k (P t p)) ∙ z)

    pub is_of_tree : OnTree t p → IsOfTree (P t p)
    is_of_tree o = go o.height o.at
      where
        go : (h : ℕ) → (entry_ghost (g t)).place p ≡ tree 1 h → IsOfTree (P t p)
        go zero here = inl (is_leaf here)
        go (suc h) here =
            let f : Fits pin.length (entry (suc h)) (P t p) =
            subst (λ (x : Place). Fits pin.length x (P t p)) (entry_is ((g t).place p) 1 (suc h) here)
            ((T.inv t a b).kinds p) in
            inr (f.0, f.1, leads_on h here)

    -- a page that leads on to no other towards a key is a leaf
    pub leaf_here : (k : Key) → OnTree t p → toward k (P t p) ≡ 0 → (entry_ghost (g t)).place p ≡ tree 1 0
    leaf_here k o z = go o.height o.at
      where
        go : (h : ℕ) → (entry_ghost (g t)).place p ≡ tree 1 h → (entry_ghost (g t)).place p ≡ tree 1 0
        go zero here = here
        go (suc h) here = absurd (leads_on h here k z)
