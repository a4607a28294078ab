-- The law over walks, from what holds at each moment of the walk.
use Rattle.std.proofs.Common.{◌≡◌, ◌≢◌, ◌≤◌, ℕ, Bool, true, false, ◌&&◌, nat_eq, List, [], ◌∷◌, ◌++◌, map, refl, sym}
use Rattle.std.proofs.Common.{ap, subst, subst₂, ap₂, ◌∙◌, inl, inr, arith}
use Rattle.std.specs.List.{list_any}
use Rattle.core_state.specs.Trees.Nodes.{AtMost}
use Rattle.core_state.proofs.Trees.Walk as w
use Rattle.core_state.proofs.Trees.EntryWalk as e
use Rattle.core_state.proofs.Trees.PendWalk as pend
use Rattle.core_state.proofs.Trees.PendWalk.{PendStep, reads_rows, Seen}
use Rattle.core_state.proofs.Trees.MainWalk as m
use Rattle.core_state.proofs.Trees.MainWalk.{Run, GrowRun, NeverRemoved, tree_meets, tree_inside, main_finds, Under}
use Rattle.core_state.proofs.Trees.MainWalk.{Stands, leaf_time, rising_in}
use Rattle.page_types.specs.declared.page.Page.{Page}
use Rattle.page_types.specs.declared.page.Row.{Row}
use Rattle.page_types.specs.declared.page.Entry.{Entry}
use Rattle.page_types.specs.declared.page.Postings.{Postings}
use Rattle.page_types.specs.declared.page.Postings.TheVariants.{Inline, Root}
use Rattle.page_types.specs.declared.page.Body.{Body}
use Rattle.page_types.specs.declared.page.Body.TheVariants.{Free, Meta, Heap, Overflow, Pending, EntryLeaf, EntryInner}
use Rattle.page_types.specs.declared.page.Body.TheVariants.{PostLeaf, PostInner, Deleted}
use Rattle.page_types.specs.Items.{items_of}
use Rattle.page_types.specs.Views.{entries_of, kept_rows_of, first_of}
use Rattle.ts_base.specs.Vectors.{Vector}
use Rattle.ts_base.specs.Keys.{keys_of}
use Rattle.core_state.specs.Log.{Pages, In}
use Rattle.ts_base.specs.Keys.{Key}
use Rattle.page_types.specs.Views.{posting_items_in}
use Rattle.gin_opclass.specs.Class.{Asked, Meaning, FitsAsked, HasKey, JudgeIsSound}
use Rattle.core_state.specs.Readings.{Read}
use Rattle.core_moments.specs.Walk.{Follows, rightward, Sought, first_key, fits, LeafRead, leaf_reads, key_reads}
use Rattle.core_moments.specs.Walk.{reads_of, KeyWalk, IsKeyWalk, Walk, IsWalk, sought_of}
use Rattle.core_moments.specs.Judging.{met, pending_has, is_exception, starts_row, starts_page, main_read, main_has}
use Rattle.core_moments.specs.Judging.{in_leaves, under, fits_asked, IsKept, HasYes}
use Rattle.core_moments.specs.Law.{AreSought}
use Rattle.core_state.specs.Trees.Ext.{Ext, ext_less}
use Rattle.core_state.specs.Trees.Ext.Ext.{least, at, greatest}
use Rattle.page_types.specs.Keys.{KeyLess}
use Rattle.core_state.proofs.Trees.Orders.{ext_order, ext_top, key_order, nat_order}
use Rattle.core_moments.proofs.Words.{upto, is_upto, not_upto, and_true, same_number, number_itself, contained}
use Rattle.core_moments.proofs.Words.{contains}
use Rattle.core_moments.proofs.Judging.{Shown, keeps, yes_holds}
use Rattle.core_state.proofs.Moments.Told as told
use Rattle.core_state.proofs.Moments.Told.{Trees, Pends, entry_of}
use Rattle.core_moments.proofs.Views.{tr, tr_leaf, goes, toward_same}
use Rattle.core_state.specs.Trees.TreeNodes.{entry_node, post_node}
use Rattle.core_state.proofs.PageLists.{in_either, in_front, in_back}
use Rattle.core_state.proofs.Trees.Members.{in_map, of_map}
use Rattle.core_moments.proofs.Walks.{any_true, any_in, Reads, reads_rise, reads_shown, follows_same, lead_same}
use Rattle.core_moments.proofs.Walks.{leaves_same, leaf_trees, under_true, under_back, ReadUnder, walk_reads_same}
use Rattle.core_moments.proofs.Parts.{of_fits, to_fits, from_first, goes_far, walk_for, is_walk, reads_end, reads_front}
use Rattle.core_moments.proofs.Parts.{reads_back, key_part, leaf_shown, leaf_tree_in, more_under}

module _ (P : ℕ → Pages) (start end : ℕ) (T : Trees P start end) (i : ℕ) (D : Pends P start end i) (v : Vector) where
  abbrev entries_at : ℕ → ℕ → List (m.Entry (Ext Key) (Ext ℕ))
  entries_at = told.entries_at P start end T i D v

  abbrev InMain : Key → ℕ → Type 0
  InMain = told.InMain P start end T i D v

  abbrev OnLine : ℕ → Row → Type 0
  OnLine = told.OnLine P start end T i D v

  abbrev AllPending : Type 0
  AllPending = told.AllPending P start end T i D v

  abbrev IsFirst : Type 0
  IsFirst = told.IsFirst P start end T i D v

  abbrev Facts : Type 0
  Facts = told.Facts P start end T i D v

  module _ (F : Facts) (walk : Walk) (begins_at : walk.meta.length ≡ start)
      (reads : Reads P start end (reads_of walk)) where
    order : start ≤ end
    order = reads_end P start end (reads_of walk) reads

    behind_meta : Reads P start end (walk.pending ++ key_reads walk.keys)
    behind_meta = subst (λ (t : ℕ). Reads P t end (walk.pending ++ key_reads walk.keys)) begins_at reads.2

    pend_reads : Reads P start end walk.pending
    pend_reads = reads_front P start end walk.pending (key_reads walk.keys) behind_meta

    keys_reads : Reads P start end (key_reads walk.keys)
    keys_reads = reads_back P start end walk.pending (key_reads walk.keys) behind_meta

    -- the pending phase
    rights_same : (p : ℕ) (xs : List Read) → ((x : Read) → In x xs → P x.length x.page ≡ x.content)
        → Follows rightward p xs → pend.Follows (λ t q. (P t q).right) p (map tr xs)
    rights_same p [] s f = f
    rights_same p (x ∷ xs) s f = (
      f.0,
      f.1,
      subst (λ (q : ℕ). pend.Follows (λ t q. (P t q).right) q (map tr xs))
          (ap (λ (z : Page). z.right) (sym (s x (inl refl))))
          (rights_same (rightward x.content) xs (λ y n. s y (inr n)) f.2),
    )

    module _ (ss : List Sought) (W : IsWalk ss walk) where
      meta_is : P start 0 ≡ walk.meta.content
      meta_is = subst₂ (λ (t p : ℕ). P t p ≡ walk.meta.content) begins_at W.meta_page reads.1

      pending_law : ((more : List ℕ) × (pend.pages (map tr walk.pending) ≡ D.line start ++ more))
          × ((x : w.Read) → In x (map tr walk.pending)
          → Seen (λ (row : Row). row.item) (λ j. j ≡ i) (λ u p. kept_rows_of (P u p)) (λ u p. (P u p).right)
          (λ u. first_of (P u 0)) D.line D.Gone start end D.chain D.stays D.steps x)
      pending_law = reads_rows (λ (row : Row). row.item) (λ j. j ≡ i) (λ u p. kept_rows_of (P u p))
          (λ u p. (P u p).right) (λ u. first_of (P u 0)) D.line D.Gone start end D.chain D.stays D.steps
          (map tr walk.pending) order (reads_rise P start end walk.pending pend_reads)
          (subst (λ (q : ℕ). pend.Follows (λ t q. (P t q).right) q (map tr walk.pending)) (ap first_of (sym meta_is))
          (rights_same (first_of walk.meta.content) walk.pending
          (reads_shown P start end walk.pending pend_reads) W.pending_ok))

      -- a row with the item that was read was on the line at the first moment
      row_was : (x : Read) (row : Row) → In x walk.pending → In row (kept_rows_of x.content) → row.item ≡ i
          → OnLine x.page row
      row_was x row on there item =
          let seen = pending_law.1 (tr x) ((in_map tr x walk.pending on)) in
          let shown : kept_rows_of (P x.length x.page) ≡ kept_rows_of x.content = ap kept_rows_of
          (reads_shown P start end walk.pending pend_reads x on) in
          let now : In row (kept_rows_of (P x.length x.page)) = subst (In row) (sym shown) there in
          elim seen.news [
            | inr unmet ↦ absurd (unmet row (now) item)
            | inl page ↦
                let kept = seen.kept page in
                elim (in_either row (kept_rows_of (P start x.page)) kept.0
                (subst (λ (l : List Row). In row l) kept.1 (now))) [
                  | inl old ↦ (page, old, item)
                  | inr new ↦ absurd (kept.2 row new item)
                ]
          ]

      page_of : (p : ℕ) (xs : List Read) → In p (pend.pages (map tr xs)) → (x : Read) × In x xs × (x.page ≡ p)
      page_of p [] n = absurd n
      page_of p (y ∷ ys) (inl f) = (y, inl refl, sym f)
      page_of p (y ∷ ys) (inr n) = let r = page_of p ys n in (r.0, inr r.1, r.2)

      -- and a row that was on it was read
      row_read : (p : ℕ) (row : Row) → OnLine p row → (x : Read) × In x walk.pending × In row (kept_rows_of x.content)
      row_read p row (page, there, item) =
          let found = page_of p walk.pending
          (subst (λ (l : List ℕ). In p l) (sym pending_law.0.1)
          (in_front p (D.line start) pending_law.0.0 (page))) in
          let x = found.0 in
          let seen = pending_law.1 (tr x) ((in_map tr x walk.pending found.1)) in
          let kept = seen.kept (subst (λ (q : ℕ). In q (D.line start)) (sym found.2) (page)) in
          let old : In row (kept_rows_of (P start x.page)) = subst (λ (q : ℕ). In row (kept_rows_of (P start q)))
          (sym found.2) (there) in
          let now : In row (kept_rows_of (P x.length x.page)) = subst (λ (l : List Row). In row l) (sym kept.1)
          (in_front row (kept_rows_of (P start x.page)) kept.0 old) in (
            x,
            found.1,
            subst (In row) (ap kept_rows_of (reads_shown P start end walk.pending pend_reads x found.1))
                (now),
          )

      met_by : (p : ℕ) (row : Row) → OnLine p row → met walk i ≡ true
      met_by p row on =
          let r = row_read p row on in
          any_true _ r.0 walk.pending r.1
          (any_true (λ (z : Row). nat_eq z.item i) row (kept_rows_of r.0.content) r.2
          (subst (λ (j : ℕ). nat_eq j i ≡ true) (sym on.2) (number_itself i)))

      has_by : AllPending → (a : Asked) → HasKey v a → pending_has walk i a ≡ true
      has_by all a (k, there, fit) =
          let row = all k (contained k (keys_of v) there) in
          let r = row_read row.0 row.1 row.2 in
          let test : (nat_eq row.1.item i && list_any (fits_asked a) row.1.keys) ≡ true
          = ap₂ (λ (b c : Bool). b && c) (subst (λ (j : ℕ). nat_eq j i ≡ true) (sym row.2.2) (number_itself i))
          (any_true (fits_asked a) k row.1.keys row.3 (to_fits a k fit)) in
          any_true _ r.0 walk.pending r.1
          (any_true (λ (z : Row). nat_eq z.item i && list_any (fits_asked a) z.keys) row.1
          (kept_rows_of r.0.content) r.2 test)

      rows_sound : (a : Asked) → pending_has walk i a ≡ true → HasKey v a
      rows_sound a h =
          let x = any_in _ walk.pending h in
          let row = any_in (λ (z : Row). nat_eq z.item i && list_any (fits_asked a) z.keys)
          (kept_rows_of x.0.content) x.2 in
          let both = and_true (nat_eq row.0.item i) _ row.2 in
          let k = any_in (fits_asked a) row.0.keys both.1 in
          let item : row.0.item ≡ i = same_number row.0.item i both.0 in (
            k.0,
            contains k.0 (keys_of v) (F.own_rows x.0.page row.0 k.0 (row_was x.0 row.0 x.1 row.1 item) k.1),
            of_fits a k.0 k.2,
          )

      -- the document of the first row is the exception
      first_is : IsFirst → is_exception walk i ≡ true
      first_is (p, ps, row, rows, l, k, item) = go walk.pending refl
        where
          go : (xs : List Read) → walk.pending ≡ xs → starts_page i walk.pending ≡ true
          go [] e = absurd (empty (subst₂
              (λ (ys : List Read) (l : List ℕ). pend.pages (map tr ys) ≡ l ++ pending_law.0.0) e l pending_law.0.1))
            where
              empty : [] ≡ p ∷ (ps ++ pending_law.0.0) → ⊥
              empty f = cc
          go (x ∷ xs) e = subst (λ (ys : List Read). starts_page i ys ≡ true) (sym e)
              (starts (kept_rows_of x.content) now)
            where
              same_head : (a b : ℕ) (as' bs : List ℕ) → a ∷ as' ≡ b ∷ bs → a ≡ b
              same_head a b as' bs f = cc

              on : In x walk.pending
              on = subst (In x) (sym e) (inl refl)

              page : x.page ≡ p
              page = same_head x.page p _ _
                  (subst₂ (λ (ys : List Read) (l : List ℕ). pend.pages (map tr ys) ≡ l ++ pending_law.0.0) e l
                  pending_law.0.1)

              kept : (extra : List Row) × (kept_rows_of (P x.length x.page) ≡ kept_rows_of (P start x.page) ++ extra)
                  × ((z : Row) → In z extra → z.item ≡ i → ⊥)
              kept = (pending_law.1 (tr x) ((in_map tr x walk.pending on))).kept
                  (subst₂ (λ (q : ℕ) (l : List ℕ). In q l) (sym page) (sym l) (inl refl))

              now : kept_rows_of x.content ≡ row ∷ (rows ++ kept.0)
              now = ap kept_rows_of (sym (reads_shown P start end walk.pending pend_reads x on)) ∙ kept.1
                  ∙ ap (λ (z : List Row). z ++ kept.0) (ap (λ (q : ℕ). kept_rows_of (P start q)) page ∙ k)

              starts : (zs : List Row) → zs ≡ row ∷ (rows ++ kept.0) → starts_row i zs ≡ true
              starts zs f = subst (λ (z : List Row). starts_row i z ≡ true) (sym f)
                  (subst (λ (j : ℕ). nat_eq j i ≡ true) (sym item) (number_itself i))

      -- the main part
      shown_for : (x : KeyWalk) → In x walk.keys → (y : Read) → In y (x.down ++ leaf_reads x.leaves)
          → P y.length y.page ≡ y.content
      shown_for x on = reads_shown P start end (x.down ++ leaf_reads x.leaves)
          (key_part P start end walk.keys x keys_reads on)

      rise_for : (x : KeyWalk) → In x walk.keys
          → w.Rising start end (map tr x.down ++ e.leaf_reads (map tr_leaf x.leaves))
      rise_for x on = subst (w.Rising start end) (walk_reads_same x.down x.leaves)
          (reads_rise P start end (x.down ++ leaf_reads x.leaves) (key_part P start end walk.keys x keys_reads on))

      leaf_rise : (x : KeyWalk) → In x walk.keys → w.Rising start end (e.leaf_reads (map tr_leaf x.leaves))
      leaf_rise x on = e.rising_back start end (map tr x.down) (e.leaf_reads (map tr_leaf x.leaves)) (rise_for x on)

      tree_shown : (x : KeyWalk) → In x walk.keys → (l : LeafRead) → In l x.leaves → (t : List Read) → In t l.trees
          → (y : Read) → In y t → P y.length y.page ≡ y.content
      tree_shown x on l m t n y k = shown_for x on y
          (in_back y x.down (leaf_reads x.leaves) (leaf_tree_in x.leaves l t y m n k))

      leaf_is : (x : KeyWalk) → In x walk.keys → (l : LeafRead) → In l x.leaves
          → P l.leaf.length l.leaf.page ≡ l.leaf.content
      leaf_is x on l m = leaf_shown P x.leaves l (λ y n. shown_for x on y (in_back y x.down (leaf_reads x.leaves) n))
          m

      times_of : (x : KeyWalk) → In x walk.keys → (l : LeafRead) → In l x.leaves
          → (start ≤ l.leaf.length) × (l.leaf.length ≤ end) × w.Rising l.leaf.length end
          (e.tree_reads (map (map tr) l.trees))
      times_of x on l m = leaf_time start end (map tr_leaf x.leaves) (tr_leaf l) (leaf_rise x on)
          ((in_map tr_leaf l x.leaves m))

      post_keys : (right : ℕ) (b : Body)
          → In (at i) (w.keys_of (Rattle.core_state.specs.Trees.TreeNodes.post_body right b))
          → In i (posting_items_in b)
      post_keys right (PostLeaf high items) n = let r = of_map at (at i) (items_of items) (n) in subst
          (λ (z : ℕ). In z (items_of items)) (same_at r.0 i (sym r.2)) r.1
        where
          same_at : (a b : ℕ) → at a ≡ at b → a ≡ b
          same_at a b f = cc
      post_keys right (PostInner cs) n = absurd n
      post_keys right (Deleted s) n = absurd n
      post_keys right (EntryInner cs) n = absurd n
      post_keys right (EntryLeaf high es) n = absurd n
      post_keys right Free n = absurd n
      post_keys right (Meta a b c) n = absurd n
      post_keys right (Heap s) n = absurd n
      post_keys right (Overflow s) n = absurd n
      post_keys right (Pending s) n = absurd n

      inline_of : (q : Postings) (is : List (Ext ℕ))
          → Rattle.core_state.proofs.Moments.Told.postings_of q ≡ m.Postings.inline is → In (at i) is
          → (bytes : List ℕ) × (q ≡ Inline bytes) × In i (items_of bytes)
      inline_of (Inline bytes) is f n = (
        bytes,
        refl,
        inside ((subst (λ (z : List (Ext ℕ)). In (at i) z)
            (sym (same (map at (items_of bytes)) is f)) n)),
      )
        where
          same : (a b : List (Ext ℕ)) → m.Postings.inline a ≡ m.Postings.inline b → a ≡ b
          same a b g = cc

          same_at : (a b : ℕ) → at a ≡ at b → a ≡ b
          same_at a b g = cc

          inside : In (at i) (map at (items_of bytes)) → In i (items_of bytes)
          inside n = let r = of_map at (at i) (items_of bytes) n in subst (λ (z : ℕ). In z (items_of bytes))
              (same_at r.0 i (sym r.2)) r.1
      inline_of (Root r) is f n = absurd (never f)
        where
          never : m.Postings.root r ≡ m.Postings.inline is → ⊥
          never g = cc

      root_of : (q : Postings) (r : ℕ) → Rattle.core_state.proofs.Moments.Told.postings_of q ≡ m.Postings.root r
          → q ≡ Root r
      root_of (Inline bytes) r f = absurd (never f)
        where
          never : ◌≡◌ {A = m.Postings (Ext ℕ)} (m.Postings.inline (map at (items_of bytes))) (m.Postings.root r) → ⊥
          never g = cc
      root_of (Root s) r f = ap Root (same s r f)
        where
          same : (a b : ℕ) → ◌≡◌ {A = m.Postings (Ext ℕ)} (m.Postings.root a) (m.Postings.root b) → a ≡ b
          same a b g = cc

      -- a leaf on which the item is under the key says it
      under_leaf : (x : KeyWalk) (on : In x walk.keys) (l : LeafRead) (n : In l x.leaves) (k : Key)
          (d : m.Entry (Ext Key) (Ext ℕ))
          → In d (entries_at l.leaf.length l.leaf.page) → d.key ≡ at k
          → Under (ext_order key_order) least greatest (ext_top key_order) tt (ext_order nat_order) least greatest
          (ext_top nat_order) tt (λ u p. entry_node (P u p)) T.g
          (λ u p. post_node (P u p)) T.gp start end T.entries T.posts entries_at l.leaf.length d (at i)
          → (z : Entry) × In z (entries_of l.leaf.content) × (z.key ≡ k) × ReadUnder i z.postings l.trees
      under_leaf x on l n k d here key u =
          let z = of_map entry_of d (entries_of (P l.leaf.length l.leaf.page)) (here) in (
            z.0,
            subst (λ (p : Page). In z.0 (entries_of p)) (leaf_is x on l n) z.1,
            same_at z.0.key k
                (ap (λ (y : m.Entry (Ext Key) (Ext ℕ)). y.key) (sym z.2) ∙ key),
            go (sym z.2) u,
          )
        where
          same_at : (a b : Key) → at a ≡ at b → a ≡ b
          same_at a b f = cc

          go : {z : Entry} → entry_of z ≡ d → Under (ext_order key_order) least greatest (ext_top key_order) tt
              (ext_order nat_order) least greatest (ext_top nat_order) tt (λ u p. entry_node (P u p)) T.g
              (λ u p. post_node (P u p)) T.gp start end T.entries T.posts entries_at l.leaf.length d (at i)
              → ReadUnder i z.postings l.trees
          go {z} f (Under.on_list is p inside) =
              inl (inline_of z.postings is (ap (λ (y : m.Entry (Ext Key) (Ext ℕ)). y.postings) f ∙ p) inside)
          go {z} f (Under.on_tree r h p on_it placed lower) =
              inr (
                r,
                root_of z.postings r (ap (λ (y : m.Entry (Ext Key) (Ext ℕ)). y.postings) f ∙ p),
                λ t inside follows.
                    let times = times_of x on l n in
                    let met = tree_meets (ext_order nat_order) least greatest (ext_top nat_order) tt
                    (λ u p. post_node (P u p)) T.gp start end T.posts l.leaf.length r h (at i)
                    (map tr t) F.never_removed times.0 times.1 on_it placed lower
                    (rising_in l.leaf.length end (map (map tr) l.trees) (map tr t) times.2
                    ((in_map (map tr) t l.trees inside)))
                    (follows_same P r t (tree_shown x on l n t inside) follows) in
                    let y = of_map tr met.0 t (met.1) in
                    let there = post_keys _ _
                    (subst (λ (q : w.Read). In (at i) (w.keys_of (post_node (P q.time q.page)))) y.2 met.2) in (
                      y.0,
                      y.1,
                      subst (λ (p : Page). In i (posting_items_in p.body))
                          (tree_shown x on l n t inside y.0 y.1) there,
                    ),
              )

      main_true : ((x : Key) → In x (keys_of v) → (t : ℕ) → start ≤ t → t ≤ end → InMain x t) → (x : KeyWalk)
          → In x walk.keys → IsKeyWalk x → (k : Key) → In k (keys_of v) → fits x.sought k ≡ true
          → (test : Key → Bool) → test k ≡ true → in_leaves test walk i ≡ true
      main_true all x on K k inside fit test pass =
          let l = K.is_leaf.0 in
          let ls = K.is_leaf.1 in
          let form : map tr_leaf x.leaves ≡ tr_leaf l ∷ map tr_leaf ls = ap (map tr_leaf) K.is_leaf.2 in
          let first : In l x.leaves = subst (In l) (sym K.is_leaf.2) (inl refl) in
          let found = main_finds (ext_order key_order) least greatest (ext_top key_order) tt
          (ext_order nat_order) least greatest (ext_top nat_order) tt (λ u p. entry_node (P u p)) T.g
          (λ u p. post_node (P u p)) T.gp start end T.entries T.posts entries_at
          upto is_upto not_upto (at (first_key x.sought)) (at k) (from_first x.sought k fit) tt (goes x.sought)
          (goes_far_at k fit) (at i) (all k inside) x.leaf (map tr x.down) (tr_leaf l)
          (map tr_leaf ls) T.height order T.root T.root_low
          (subst (λ (z : List e.LeafRead). w.Rising start end (map tr x.down ++ e.leaf_reads z)) form
          (rise_for x on))
          (lead_same P (first_key x.sought) 1 x.leaf x.down
          (λ y n. shown_for x on y (in_front y x.down (leaf_reads x.leaves) n)) K.down_ok)
          (ap (λ (p : Page). e.toward upto (at (first_key x.sought)) (entry_node p)) (leaf_is x on l first)
          ∙ sym (toward_same (first_key x.sought) l.leaf.content) ∙ K.is_leaf.3)
          (subst (λ (z : List e.LeafRead). e.AreLeaves (goes x.sought) (λ t q. entry_node (P t q)) x.leaf z)
          form (leaves_same P x.sought x.leaf x.leaves (leaf_is x on) K.leaves_ok)) in
          let at_leaf = of_map tr_leaf found.0 x.leaves
          ((subst (λ (z : List e.LeafRead). In found.0 z) (sym form) found.1)) in
          let y = at_leaf.0 in
          let stands = subst (λ (z : e.LeafRead). Stands (ext_order key_order) least greatest (ext_top key_order) tt
          (ext_order nat_order) least greatest (ext_top nat_order) tt (λ u p. entry_node (P u p)) T.g
          (λ u p. post_node (P u p)) T.gp start end T.entries T.posts entries_at (at k)
          (at i) z.leaf.time z.leaf.page) at_leaf.2 found.2 in
          let told = under_leaf x on y at_leaf.1 k stands.0 stands.1 stands.2 stands.3 in
          any_true _ x walk.keys on (any_true _ y x.leaves at_leaf.1
          (under_true x.sought test i (entries_of y.leaf.content) y.trees told.0
          (leaf_trees x.sought x.leaf x.leaves y K.leaves_ok at_leaf.1) told.1
          (subst (λ (z : Key). fits x.sought z ≡ true) (sym told.2) fit)
          (subst (λ (z : Key). test z ≡ true) (sym told.2) pass) told.3))
        where
          goes_far_at : (k : Key) → fits x.sought k ≡ true → (h : Ext Key)
              → AtMost (ext_order key_order) greatest (at (first_key x.sought)) h → ext_less KeyLess h (at k)
              → goes x.sought h ≡ true
          goes_far_at k fit h a b = goes_far x.sought k fit h a b

      rising_bounds : (s : ℕ) (xs : List w.Read) (y : w.Read) → w.Rising s end xs → In y xs
          → (s ≤ y.time) × (y.time ≤ end)
      rising_bounds s [] y r n = absurd n
      rising_bounds s (z ∷ zs) y r (inl f) = subst (λ (q : w.Read). (s ≤ q.time) × (q.time ≤ end)) (sym f)
          (r.0, w.rising_end z.time end zs r.1)
      rising_bounds s (z ∷ zs) y r (inr n) = let q = rising_bounds z.time zs y r.1 n in (omega (arith, r.0, q.0), q.1)

      -- a key under which the item was read is a key of the document
      main_keys : (test : Key → Bool) → in_leaves test walk i ≡ true → (k : Key) × In k (keys_of v) × (test k ≡ true)
      main_keys test h =
          let x = any_in _ walk.keys h in
          let l = any_in (λ (l : LeafRead). under x.0.sought test i (entries_of l.leaf.content) l.trees) x.0.leaves
          x.2 in
          let K = is_walk ss walk.keys x.0 W.keys_ok x.1 in
          let told = under_back x.0.sought test i (entries_of l.0.leaf.content) l.0.trees
          (leaf_trees x.0.sought x.0.leaf x.0.leaves l.0 K.leaves_ok l.1) l.2 in
          let times = times_of x.0 x.1 l.0 l.1 in
          let on = subst (λ (p : Page). In told.0 (entries_of p)) (sym (leaf_is x.0 x.1 l.0 l.1)) told.1 in (
            told.0.key,
            elim told.3 [
              | inl u ↦ F.own_lists l.0.leaf.length l.0.leaf.page told.0 u.0 times.0 times.1 on u.1 u.2
              | inr u ↦
                  let r = u.0 in
                  let t = u.1 in
                  let y = u.5 in
                  let rise = rising_in l.0.leaf.length end (map (map tr) l.0.trees) (map tr t) times.2
                  ((in_map (map tr) t l.0.trees u.3)) in
                  let member = (in_map tr y.0 t y.1) in
                  let bounds = rising_bounds l.0.leaf.length (map tr t) (tr y.0) rise member in
                  let inside = tree_inside (ext_order nat_order) least greatest (ext_top nat_order) tt
                  (λ u p. post_node (P u p)) T.gp start end T.posts l.0.leaf.length r r (map tr t) times.0
                  (inr (T.roots l.0.leaf.length l.0.leaf.page told.0 r times.0 times.1 on u.2)) rise
                  (follows_same P r t (tree_shown x.0 x.1 l.0 l.1 t u.3) u.4) (tr y.0) member in
                  F.own_trees l.0.leaf.length l.0.leaf.page told.0 r y.0.length y.0.page times.0 bounds.0 bounds.1 on
                  u.2
                  inside
                  (subst (λ (p : Page). In i (posting_items_in p.body))
                  (sym (tree_shown x.0 x.1 l.0 l.1 t u.3 y.0 y.1)) y.2)
            ],
            told.2,
          )

      main_sound : (a : Asked) → main_has walk i a ≡ true → HasKey v a
      main_sound a h = let k = main_keys (fits_asked a) h in (k.0, contains k.0 (keys_of v) k.1, of_fits a k.0 k.2)

      more_read : (ws : List KeyWalk) (test : Key → Bool)
          → list_any (λ k. list_any (λ l. under k.sought test i (entries_of l.leaf.content) l.trees) k.leaves)
          ws ≡ true → list_any (λ k. list_any (λ l. under k.sought (λ z. true) i (entries_of l.leaf.content) l.trees)
          k.leaves) ws ≡ true
      more_read ws test h =
          let x = any_in (λ (k : KeyWalk). list_any
          (λ (l : LeafRead). under k.sought test i (entries_of l.leaf.content) l.trees) k.leaves) ws h in
          let l = any_in (λ (l : LeafRead). under x.0.sought test i (entries_of l.leaf.content) l.trees) x.0.leaves
          x.2 in
          any_true _ x.0 ws x.1 (any_true
          (λ (l : LeafRead). under x.0.sought (λ z. true) i (entries_of l.leaf.content) l.trees) l.0 x.0.leaves
          l.1 (more_under x.0.sought test i (entries_of l.0.leaf.content) l.0.trees l.2))

  -- the law: a document that satisfies the query is kept, and a yes is right
  module _ (F : Facts) {Q : Type 0} (M : Meaning Q) (S : JudgeIsSound M) (q : Q) (walk : Walk) (sought : List Sought)
      (A : AreSought M q sought) (W : IsWalk sought walk) (begins_at : walk.meta.length ≡ start)
      (reads : Reads P start end (reads_of walk)) where
    a_key : (ks : List Key) → ks ≢ [] → (k : Key) × In k ks
    a_key [] n = absurd (n refl)
    a_key (k ∷ ks) n = (k, inl refl)

    -- the walk for a key that is asked, or the one for all
    sought_for : (b : Bool) → M.all q ≡ b → (a : Asked) → In a (M.asked q) → (k : Key) → FitsAsked a k
        → (x : KeyWalk) × In x walk.keys × IsKeyWalk x × (fits x.sought k ≡ true)
    sought_for true f a n k fit =
        let r = walk_for sought walk.keys Sought.whole W.keys_ok
        (subst (In Sought.whole) (sym (A.of_all f)) (inl refl)) in
        (r.0, r.1, r.3, ap (λ (s : Sought). fits s k) r.2)
    sought_for false f a n k fit =
        let r = walk_for sought walk.keys (sought_of a) W.keys_ok (A.each f a n) in
        (r.0, r.1, r.3, ap (λ (s : Sought). fits s k) r.2 ∙ to_fits a k fit)

    shown : Shown M S q walk i v
    shown = record {
      rows_sound = λ a n h. rows_sound F walk begins_at reads sought W a h;
      main_sound = λ a n h. main_sound F walk begins_at reads sought W a h;
      not_first = λ met_it not_ex a n h. go met_it not_ex a h;
      split = elim F.indexed [
        | inl all ↦ inl (met_all all, λ a n h. has_by F walk begins_at reads sought W all a h)
        | inr all ↦ inr (main all, whole all)
      ];
      read_where_there = λ a h. more_read F walk begins_at reads sought W walk.keys (fits_asked a) h;
    }
      where
        go : met walk i ≡ true → is_exception walk i ≡ false → (a : Asked) → HasKey v a → pending_has walk i a ≡ true
        go met_it not_ex a h =
            let x = any_in _ walk.pending met_it in
            let row = any_in (λ (z : Row). nat_eq z.item i) (kept_rows_of x.0.content) x.2 in
            elim (F.complete x.0.page row.0
            (row_was F walk begins_at reads sought W x.0 row.0 x.1 row.1 (same_number row.0.item i row.2))) [
              | inl first ↦ absurd (clash (is_exception walk i) (first_is F walk begins_at reads sought W first) not_ex)
              | inr all ↦ has_by F walk begins_at reads sought W all a h
            ]
          where
            clash : (b : Bool) → b ≡ true → b ≡ false → ⊥
            clash true f g = cc
            clash false f g = cc

        met_all : AllPending → met walk i ≡ true
        met_all all =
            let k = a_key (keys_of v) F.some_key in
            let row = all k.0 k.1 in
            met_by F walk begins_at reads sought W row.0 row.1 row.2

        main : ((x : Key) → In x (keys_of v) → (t : ℕ) → start ≤ t → t ≤ end → InMain x t) → (a : Asked)
            → In a (M.asked q) → HasKey v a → main_has walk i a ≡ true
        main all a n (k, inside, fit) =
            let x = sought_for (M.all q) refl a n k fit in
            main_true F walk begins_at reads sought W all x.0 x.1 x.2 k (contained k (keys_of v) inside) x.3
            (fits_asked a) (to_fits a k fit)

        whole : ((x : Key) → In x (keys_of v) → (t : ℕ) → start ≤ t → t ≤ end → InMain x t) → M.all q ≡ true
            → main_read walk i ≡ true
        whole all f =
            let k = a_key (keys_of v) F.some_key in
            let r = walk_for sought walk.keys Sought.whole W.keys_ok
            (subst (In Sought.whole) (sym (A.of_all f)) (inl refl)) in
            main_true F walk begins_at reads sought W all r.0 r.1 r.3 k.0 k.1 (ap (λ (s : Sought). fits s k.0) r.2)
            (λ z. true) refl

    pub is_kept : M.satisfies q v → IsKept M q walk i
    is_kept sat = keeps M S q walk i v shown sat

    pub is_right : HasYes M q walk i → M.satisfies q v
    is_right y = yes_holds M S q walk i v shown y
