-- The facts from which the law over walks follows, of a document of a pin's snapshot.
use Rattle.std.proofs.Common.{◌≡◌, ◌≢◌, ◌⊎◌, ◌<◌, ◌≤◌, ◌+◌, ◌-◌, ℕ, zero, suc, List, [], ◌∷◌, map, length, refl, sym}
use Rattle.std.proofs.Common.{ap, subst, ◌∙◌, inl, inr, arith}
use Rattle.ts_base.specs.Vectors.{Vector}
use Rattle.ts_base.specs.Keys.{Key, keys_of}
use Rattle.page_types.specs.Items.{items_of}
use Rattle.page_types.specs.Keys.{KeyLess}
use Rattle.page_types.specs.Views.{rows_of, kept_rows_of, entries_of, posting_items_in}
use Rattle.page_types.specs.declared.page.Page.{Page}
use Rattle.page_types.specs.declared.page.Row.{Row}
use Rattle.page_types.specs.declared.page.Entry.{Entry}
use Rattle.page_types.specs.declared.page.Postings.TheVariants.{Root}
use Rattle.page_types.specs.declared.page.Body.{Body}
use Rattle.page_types.specs.declared.page.Body.TheVariants as body
use Rattle.core_state.specs.Log.{Log, Pages, In, cut}
use Rattle.core_state.specs.Documents.{HasVector}
use Rattle.core_state.specs.History.{Document}
use Rattle.core_state.specs.Index.{Pending}
use Rattle.core_state.specs.Bullets.{WasIndexed}
use Rattle.core_state.specs.Legal.{RecordsAreValid, Pin, KeepsEach}
use Rattle.core_state.specs.VacuumRules.{MayLeave}
use Rattle.core_state.specs.Inner.Ghosts.{Ghost, Place, post_place, post_ghost}
use Rattle.core_state.specs.Inner.Ghosts.Place.{post}
use Rattle.core_state.specs.Inner.Grouping.{InLine, StartsPage, IsFirst, KeyIn, rows_by_page}
use Rattle.core_state.specs.Inner.Kinds.{Fits}
use Rattle.core_state.specs.Trees.Nodes as nodes
use Rattle.core_state.specs.Trees.TreeNodes.{entry_node, post_node}
use Rattle.core_state.specs.Trees.Ext.Ext.{least, at, greatest}
use Rattle.core_state.proofs.Law.Steps.{StepHolds}
use Rattle.core_state.proofs.Law.Invariant.{Inv}
use Rattle.core_state.proofs.Law.Places.{place_for}
use Rattle.core_state.proofs.Law.Belows as belows
use Rattle.core_state.proofs.Law.MainPlaces.{MainAt, PostsHold}
use Rattle.core_state.proofs.Trees.Orders.{ext_top, nat_order, items}
use Rattle.core_state.proofs.Trees.MainWalk as m
use Rattle.core_state.proofs.Trees.MainWalk.{run_stays}
use Rattle.core_state.proofs.Trees.Walk.{IsIn, keys_of as node_keys}
use Rattle.core_state.proofs.Trees.Members.{in_map}
use Rattle.core_state.proofs.Moments.Told.{entry_of}
use Rattle.core_state.proofs.Moments.Told as told
use Rattle.core_state.proofs.Moments.Phases.{trees, pends}
use Rattle.core_state.proofs.Visible.{Visible}
use Rattle.core_state.proofs.Moments.Here as here
use Rattle.core_state.proofs.Moments.Facts.{alive_at, there, mine, no_leave}
use Rattle.core_state.proofs.Moments.Timeline.{Timeline}

-- a page with postings is a leaf of a posting tree
pub leaf_place : (L : ℕ) (x : Place) (p : Page) (i : ℕ) → Fits L x p → In i (posting_items_in p.body)
    → (r : ℕ) × (x ≡ post r 0)
leaf_place L x p i f j = by p.body refl j
  where
    by : (b : Body) → p.body ≡ b → In i (posting_items_in b) → (r : ℕ) × (x ≡ post r 0)
    by (body.PostLeaf high is) e k = place_for L x p (body.PostLeaf high is) f e
    by body.Free e k = absurd k
    by (body.Meta a b c) e k = absurd k
    by (body.Heap s) e k = absurd k
    by (body.Overflow s) e k = absurd k
    by (body.Pending s) e k = absurd k
    by (body.EntryLeaf h s) e k = absurd k
    by (body.EntryInner s) e k = absurd k
    by (body.PostInner s) e k = absurd k
    by (body.Deleted s) e k = absurd k

-- rows by pages
on_some_page : (P : Pages) (i : ℕ) (qs : List ℕ) (p : ℕ) (row : Row) → In p qs → In row (rows_of (P p))
    → row.item ≡ i → InLine i (rows_by_page P qs)
on_some_page P i [] p row on in_page item = absurd on
on_some_page P i (q ∷ qs) p row (inl e) in_page item = inl (row, subst (λ z. In row (rows_of (P z))) e in_page, item)
on_some_page P i (q ∷ qs) p row (inr on) in_page item = inr (on_some_page P i qs p row on in_page item)

key_on : (P : Pages) (k : Key) (i : ℕ) (qs : List ℕ) → KeyIn k i (rows_by_page P qs)
    → (p : ℕ) × (row : Row) × In p qs × In row (rows_of (P p)) × (row.item ≡ i) × In k row.keys
key_on P k i [] h = absurd h
key_on P k i (q ∷ qs) (inl r) = (q, r.0, inl refl, r.1, r.2, r.3)
key_on P k i (q ∷ qs) (inr h) = let r = key_on P k i qs h in (r.0, r.1, inr r.2, r.3, r.4, r.5)

-- the node of a page has its items
leaf_items : (p : Page) (i : ℕ) → In i (posting_items_in p.body) → In (at i) (node_keys (post_node p))
leaf_items p i j = by p.body j
  where
    by : (b : Body) → In i (posting_items_in b)
        → In (at i) (node_keys (Rattle.core_state.specs.Trees.TreeNodes.post_body p.right b))
    by (body.PostLeaf high is) k = in_map at i (items_of is) k
    by body.Free k = absurd k
    by (body.Meta a b c) k = absurd k
    by (body.Heap s) k = absurd k
    by (body.Overflow s) k = absurd k
    by (body.Pending s) k = absurd k
    by (body.EntryLeaf h s) k = absurd k
    by (body.EntryInner s) k = absurd k
    by (body.PostInner s) k = absurd k
    by (body.Deleted s) k = absurd k

module _ (step : StepHolds) (pin : Pin) (R : Log) (v : RecordsAreValid R) (k : KeepsEach pin R) (start : ℕ)
    (from : pin.length ≤ start) (within : start ≤ length R) (some : 1 ≤ start)
    (P : ℕ → Pages) (g : ℕ → Ghost) (T : Timeline pin start R P g) (D : Document) (V : Visible R pin.commits D)
    (early : length V.inserted.commit.earlier < pin.length)
    (was : WasIndexed (cut start R) V.inserted.doc) where
  has : (t : ℕ) → start ≤ t → t ≤ length R → HasVector (P t) V.inserted.doc D.vector
  has t a b = there step pin R v k start from within P g T D V early t a b

  abbrev the_trees : told.Trees P start (length R)
  the_trees = trees pin R P g start T some within

  abbrev the_pends : told.Pends P start (length R) V.inserted.doc.item
  the_pends = pends pin R P g start T some within v k V.inserted.doc.item
      (λ t a b. mine step pin R v k start from within P g T D V early t a b)

  posts_at : (t : ℕ) → start ≤ t → t ≤ length R → PostsHold pin.length (P t) (g t)
  posts_at t a b = let inv = T.inv t a b in record
      { kinds = inv.kinds; posts = inv.posts; rooted = inv.posts_rooted; named = inv.named }

  -- a pair of the main part stays
  main_on : (n t : ℕ) → start ≤ t → t + n ≤ length R → (x : Key) → MainAt (P t) (g t) x V.inserted.doc.item
      → MainAt (P (t + n)) (g (t + n)) x V.inserted.doc.item
  main_on zero t a b x h = subst (λ z. MainAt (P z) (g z) x V.inserted.doc.item)
      (let e : t ≡ t + 0 = omega arith in e) h
  main_on (suc n) t a b x h =
      let now : t < length R = omega (arith, b) in
      let next : MainAt (P (t + 1))
      (g (t + 1)) x V.inserted.doc.item = elim ((T.case t a now).2.main x V.inserted.doc.item h) [
        | inl stays ↦ stays
        | inr may ↦ absurd (no_leave step pin R v k start from within P g T D V early t a (omega (arith, now)) may.may)
      ] in
      subst (λ z. MainAt (P z) (g z) x V.inserted.doc.item) (let e : t + 1 + n ≡ t + suc n = omega arith in e)
      (main_on n (t + 1) (omega (arith, a)) (omega (arith, b)) x next)

  main_from : (t : ℕ) → start ≤ t → t ≤ length R → (x : Key) → MainAt (P start) (g start) x V.inserted.doc.item
      → MainAt (P t) (g t) x V.inserted.doc.item
  main_from t a b x h = subst (λ z. MainAt (P z) (g z) x V.inserted.doc.item)
      (let e : start + (t - start) ≡ t = omega (arith, a) in e)
      (main_on (t - start) start (omega arith) (omega (arith, a, b)) x h)

  -- a pair of the main part is on a leaf of the entry tree, in its list or in its posting tree
  in_main : (t : ℕ) (a : start ≤ t) (b : t ≤ length R) (x : Key) → MainAt (P t) (g t) x V.inserted.doc.item
      → told.InMain P start (length R) the_trees V.inserted.doc.item the_pends D.vector x t
  in_main t a b x (MainAt.listed q e bytes on key is inside) =
      let at_leaf = here.entry_at pin.commits pin.length (cut t R) (P t) (g t) (T.inv t a b) V.inserted.doc D.vector
      (has t a b) (alive_at step pin R v k start from within P g T D V early t) q e on in (
        q,
        at_leaf.0,
        subst (λ z. Rattle.core_state.specs.Trees.Ext.ext_less KeyLess ((g t).low_key q) (at z)) key at_leaf.1,
        subst (λ z. nodes.AtMost Rattle.core_state.proofs.Trees.Orders.keys greatest (at z) ((g t).high_key q)) key
            at_leaf.2,
        (
          entry_of e,
          in_map entry_of e (entries_of (P t q)) on,
          ap at key,
          m.Under.on_list (map at (items_of bytes)) (ap Rattle.core_state.proofs.Moments.Told.postings_of is)
              (in_map at V.inserted.doc.item (items_of bytes) inside),
        ),
      )
  in_main t a b x (MainAt.posted q r at_q key inside) =
      let inv = T.inv t a b in
      let root = belows.root_of pin.length (P t) (g t) (posts_at t a b) q r 0 at_q in
      let by = inv.named.named r root.0 root.1 in
      let named : by.1.key ≡ x = sym (inv.named.key by.0 r by.1 by.2 by.3) ∙ key in
      let at_leaf = here.entry_at pin.commits pin.length (cut t R) (P t) (g t) inv V.inserted.doc D.vector
      (has t a b) (alive_at step pin R v k start from within P g T D V early t) by.0 by.1 by.2 in
      let low : (g t).low_item r ≡ least = inv.posts_rooted.low r root.0 (ap post_place root.1) in (
        by.0,
        at_leaf.0,
        subst (λ z. Rattle.core_state.specs.Trees.Ext.ext_less KeyLess ((g t).low_key by.0) (at z)) named at_leaf.1,
        subst (λ z. nodes.AtMost Rattle.core_state.proofs.Trees.Orders.keys greatest (at z) ((g t).high_key by.0))
            named at_leaf.2,
        (
          entry_of by.1,
          in_map entry_of by.1 (entries_of (P t by.0)) by.2,
          ap at named,
          m.Under.on_tree r root.0 (ap Rattle.core_state.proofs.Moments.Told.postings_of by.3)
              (q, ap post_place at_q, leaf_items (P t q) V.inserted.doc.item inside) (ap post_place root.1)
              (subst (λ z. Rattle.core_state.specs.Trees.Ext.ext_less (λ (c e : ℕ). c < e) z (at V.inserted.doc.item))
              (sym low) tt),
        ),
      )

  inv_start : Inv pin.commits pin.length (cut start R) (P start) (g start)
  inv_start = T.inv start (omega arith) within

  abbrev AllThere : Type 0
  AllThere = told.AllPending P start (length R) the_trees V.inserted.doc.item the_pends D.vector

  pending_there : (x : Key) → Pending (P start) x V.inserted.doc.item
      → (p : ℕ) × (row : Row) × told.OnLine P start (length R) the_trees V.inserted.doc.item the_pends D.vector p row
      × In x row.keys
  pending_there x pending =
      let r = here.pending_row pin.commits pin.length (cut start R) (P start)
      (g start) inv_start V.inserted.doc D.vector (has start (omega arith) within)
      (alive_at step pin R v k start from within P g T D V early start) x pending in
      (r.0, r.1, (r.2, r.3, r.4), r.5)

  indexed : AllThere ⊎ ((x : Key) → In x (keys_of D.vector) → (t : ℕ) → start ≤ t → t ≤ length R
      → told.InMain P start (length R) the_trees V.inserted.doc.item the_pends D.vector x t)
  indexed =
      let is = inv_start.indexed.stays V.inserted.doc was
      (inl (alive_at step pin R v k start from within P g T D V early start)) in
      let one : is.vector ≡ D.vector = Rattle.core_state.proofs.Histories.vector_one
      (P start) V.inserted.doc is.vector D.vector is.whole (has start (omega arith) within) in
      elim is.there [
        | inl all ↦ inl (λ x i. pending_there x (all x (subst (λ z. In x (keys_of z)) (sym one) i)))
        | inr all ↦ inr (λ x i t a b. in_main t a b x (main_from t a b x
            (belows.main_at pin.length (P start) (g start)
            (posts_at start (omega arith) within) x V.inserted.doc.item
            (all x (subst (λ z. In x (keys_of z)) (sym one) i)))))
      ]

  -- the rows of the line
  line_row : (p : ℕ) → In p (g start).line → kept_rows_of (P start p) ≡ rows_of (P start p)
  line_row p on = here.rows_kept pin.commits pin.length (cut start R) (P start)
      (g start) inv_start V.inserted.doc D.vector (has start (omega arith) within)
      (alive_at step pin R v k start from within P g T D V early start) p on

  first_row : (qs : List ℕ) → (g start).line ≡ qs → IsFirst V.inserted.doc.item (rows_by_page (P start) qs)
      → told.IsFirst P start (length R) the_trees V.inserted.doc.item the_pends D.vector
  first_row [] e f = absurd f
  first_row (p ∷ ps) e f = by (rows_of (P start p)) refl f
    where
      by : (rows : List Row) → rows_of (P start p) ≡ rows → StartsPage V.inserted.doc.item rows
          → told.IsFirst P start (length R) the_trees V.inserted.doc.item the_pends D.vector
      by [] s h = absurd h
      by (w ∷ ws) s h = (p, ps, w, ws, e, line_row p (subst (In p) (sym e) (inl refl)) ∙ s, h)

  complete : (p : ℕ) (row : Row)
      → told.OnLine P start (length R) the_trees V.inserted.doc.item the_pends D.vector p row
      → told.IsFirst P start (length R) the_trees V.inserted.doc.item the_pends D.vector ⊎ AllThere
  complete p row on =
      let at_page = on_some_page (P start) V.inserted.doc.item (g start).line p row on.0
      (subst (In row) (line_row p on.0) on.1) on.2 in
      elim (inv_start.grouped.complete V.inserted.doc.item at_page) [
        | inl first ↦ inl (first_row (g start).line refl first)
        | inr all ↦ inr (λ x i.
            let vector : all.vector ≡ D.vector = here.same_vector pin.commits pin.length (cut start R) (P start)
            (g start) inv_start V.inserted.doc D.vector (has start (omega arith) within)
            (alive_at step pin R v k start from within P g T D V early start) all.doc all.whole.0 all.vector
            all.whole.1 all.whole.2 all.item in
            let r = key_on (P start) x V.inserted.doc.item (g start).line
            (all.keys x (subst (λ z. In x (keys_of z)) (sym vector) i)) in
            (r.0, r.1, (r.2, subst (In r.1) (sym (line_row r.0 r.2)) r.3, r.4), r.5))
      ]

  -- the key of a posting tree stays
  root_live : (t r : ℕ) → start ≤ t → t ≤ length R → IsIn (post_ghost (g t)) r r
      → (h : ℕ) × ((g t).place r ≡ post r h)
  root_live t r a b (inl live) = (live.0, belows.post_is ((g t).place r) r live.0 live.1)
  root_live t r a b (inr gone_is) = let up = (T.inv t a b).posts_rooted.lefts r r gone_is in absurd
      (left_not_tree r up.0 (sym gone_is ∙ up.1))
    where
      left_not_tree : (r h : ℕ) → nodes.TreePlace.left r ≡ nodes.TreePlace.tree r (suc h) → ⊥
      left_not_tree r h e = cc

  key_stays : (n t r : ℕ) → start ≤ t → t + n ≤ length R → IsIn (post_ghost (g t)) r r
      → (g (t + n)).key_of r ≡ (g t).key_of r
  key_stays zero t r a b is_in = ap (λ z. (g z).key_of r) (let e : t + 0 ≡ t = omega arith in e)
  key_stays (suc n) t r a b is_in =
      let now : t < length R = omega (arith, b) in
      let live = root_live t r a (omega (arith, now)) is_in in
      let next = (run_stays items least greatest (ext_top nat_order) tt (λ u p. post_node (P u p))
      (λ u. post_ghost (g u)) start (length R) (the_trees.posts) r t r a now is_in).0 in
      ap (λ z. (g z).key_of r) (let e : t + suc n ≡ t + 1 + n = omega arith in e)
      ∙ key_stays n (t + 1) r (omega (arith, a)) (omega (arith, b)) next
      ∙ (T.case t a now).2.trees.key_of r live.0 live.1

  owned : (t : ℕ) (a : start ≤ t) (b : t ≤ length R) (x : Key)
      → Rattle.core_state.specs.Bullets.Owned (P t) x V.inserted.doc.item → In x (keys_of D.vector)
  owned t a b x o = here.owned_key pin.commits pin.length (cut t R) (P t) (g t) (T.inv t a b) V.inserted.doc D.vector
      (has t a b) (alive_at step pin R v k start from within P g T D V early t) x o

  own_trees : (t p : ℕ) (x : Entry) (r s q : ℕ) → start ≤ t → t ≤ s → s ≤ length R → In x (entries_of (P t p))
      → x.postings ≡ Root r → IsIn (post_ghost (g s)) r q
      → In V.inserted.doc.item (posting_items_in (P s q).body) → In x.key (keys_of D.vector)
  own_trees t p x r s q a l b on names inside at_item =
      let until : t ≤ length R = omega (arith, l, b) in
      let since : start ≤ s = omega (arith, a, l) in
      let inv = T.inv t a until in
      let root = inv.named.is_root p r x on names in
      let key : (g s).key_of r ≡ x.key =
      (let e : t + (s - t) ≡ s = omega (arith, l) in ap (λ z. (g z).key_of r) (sym e))
      ∙ key_stays (s - t) t r a (omega (arith, l, b)) (inl (root.0, ap post_place root.1))
      ∙ inv.named.key p r x on names in
      let leaf = leaf_place pin.length ((g s).place q) (P s q) V.inserted.doc.item
      ((T.inv s since b).kinds q) at_item in
      let same : leaf.0 ≡ r = one_tree leaf.0 r (sym (ap post_place leaf.1)) inside in
      let mine = owned s since b ((g s).key_of r)
      ((T.inv s since b).items_owned.posted q r V.inserted.doc.item (leaf.1 ∙ ap (λ z. post z 0) same) at_item) in
      subst (λ z. In z (keys_of D.vector)) key mine
    where
      one_tree : (u w : ℕ) → nodes.TreePlace.tree u 0 ≡ (post_ghost (g s)).place q → IsIn (post_ghost (g s)) w q → u ≡ w
      one_tree u w e (inl live) = let f : nodes.TreePlace.tree u 0 ≡ nodes.TreePlace.tree w live.0 = e ∙ live.1 in cc
      one_tree u w e (inr was_left) = let f : nodes.TreePlace.tree u 0 ≡ nodes.TreePlace.left w = e ∙ was_left in cc

  keys_some : keys_of D.vector ≢ []
  keys_some = by D.vector
    where
      by : (w : Vector) → keys_of w ≢ []
      by [] e = cc
      by (x ∷ w) e = cc

  pub facts : told.Facts P start (length R) the_trees V.inserted.doc.item the_pends D.vector
  facts = record {
    some_key = keys_some;
    indexed = indexed;
    never_removed = λ t a b. (T.case t a b).2.trees.posts.1 (at V.inserted.doc.item)
        (λ may. no_leave step pin R v k start from within P g T D V early t a (omega (arith, b))
        (subst (MayLeave (cut t R) (P t) pin.commits) (same_item may.0 V.inserted.doc.item (sym may.1)) may.2));
    complete = complete;
    own_rows = λ p row x on i. here.line_row_key pin.commits pin.length (cut start R) (P start)
        (g start) inv_start V.inserted.doc D.vector (has start (omega arith) within)
        (alive_at step pin R v k start from within P g T D V early start) p row x on.0 on.1 on.2 i;
    own_lists = λ t p x bytes a b on is inside. owned t a b x.key
        ((T.inv t a b).items_owned.inline p V.inserted.doc.item x bytes on is inside);
    own_trees = own_trees;
  }
    where
      same_item : (u w : ℕ) → at u ≡ at w → u ≡ w
      same_item u w e = cc
