-- The case of a private chain that comes after the pending list.
use Rattle.std.proofs.Common.{◌≡◌, ◌≢◌, ◌⊎◌, ◌+◌, ℕ, List, [], ◌∷◌, ◌++◌, length, refl, sym, ap, ap₂, subst, ◌∙◌, inl}
use Rattle.std.proofs.Common.{inr, append_assoc, append-nil, length-append}
use Rattle.std.proofs.lemmas.List.{map-append}
use Rattle.ts_base.specs.Vectors.{Vector}
use Rattle.ts_base.specs.Keys.{Key, keys_of}
use Rattle.page_types.specs.Views.{rows_of, first_of, first_in}
use Rattle.page_types.specs.declared.page.Page.{Page}
use Rattle.page_types.specs.declared.page.Head.{Head}
use Rattle.page_types.specs.declared.page.Row.{Row}
use Rattle.page_types.specs.declared.page.Body.{Body}
use Rattle.page_types.specs.declared.page.Body.TheVariants as body
use Rattle.page_types.specs.declared.record.Record.{Record}
use Rattle.page_types.specs.declared.record.Kind.TheVariants as kind
use Rattle.core_state.specs.Log.{Log, Pages, In, changed, fate}
use Rattle.core_state.specs.Documents.{Has, IsChain, IsWhole, HasVector, IsDead, page_of, doc_at}
use Rattle.core_state.specs.Index.{Line, InRows, IsIndexed, rows_on}
use Rattle.core_state.specs.PendingRules.{IsLinkPending}
use Rattle.core_state.specs.declared.answers.Fate.TheVariants.{Running}
use Rattle.core_state.specs.Inner.Effects.{NewRow}
use Rattle.core_state.specs.Inner.ItemChains.{ChainOf}
use Rattle.core_state.specs.Inner.Ghosts.{Place, Ghost}
use Rattle.core_state.specs.Inner.Ghosts.Place.{unused, meta, heap, line, shifted, entry, overflow_of, private_of}
use Rattle.core_state.specs.Inner.Kinds.{Fits, PagesStart, IsLined, AreChained, last_of}
use Rattle.core_state.specs.Inner.Owners.{RowOwned}
use Rattle.core_state.specs.Inner.Grouping.{rows_by_page, InLine, Grouped, KeyIn, Complete, RowsGrouped}
use Rattle.core_state.specs.Inner.LineSteps.{LineStep}
use Rattle.core_state.proofs.Histories.{chain_one, whole_one}
use Rattle.core_state.proofs.PageLists.{same_or_not, in_or_not, in_front, in_back}
use Rattle.core_state.proofs.PageLists as lists
use Rattle.core_state.proofs.HeadSteps.{link_turned}
use Rattle.core_state.proofs.Chains.{chain_kept, none_chain}
use Rattle.core_state.proofs.StaysIndexed.{same_doc, runs_alive}
use Rattle.core_state.proofs.ChainRows.{LeavesOverflows, overflows_stay, link_privates}
use Rattle.core_state.proofs.Law.Invariant.{Inv}
use Rattle.core_state.proofs.Law.Places.{place_for}
use Rattle.core_state.proofs.Law.RowsIndexed.{on_some}
use Rattle.core_state.proofs.Law.Steps.{Left, Case, CaseOf}
use Rattle.core_state.proofs.Law.SamePages.{not_first}
use Rattle.core_state.proofs.Law.OwnersStay.{PrivateNow, rows_stay, all_keys_stay, on_line_row, same_rows}
use Rattle.core_state.proofs.Law.LooseSteps.{Loose, PageNow, kinds_now, trees_now, named_now, main_now, items_now}
use Rattle.core_state.proofs.Law.ChainsStay.{overflows, privates}
use Rattle.core_state.proofs.Law.Groups.{Filled, in_either, first_more, key_before, key_behind, link_grouped}
use Rattle.core_state.proofs.Law.Groups.{chain_grouped, last_once}
use Rattle.core_state.proofs.Law.LinkPages.{joined, joined_back, joined_here, joined_on, joined_was, LinkPages}
use Rattle.core_state.proofs.Law.LinkPages.{link_pages, chain_join, last_is}

meta_count : (a b c d e f : ℕ) → body.Meta a b c ≡ body.Meta d e f → (a ≡ d) × (c ≡ f)
meta_count a b c d e f m = (cc, cc)

-- a key among the rows of pages
in_rows_on : (P : Pages) (k : Key) (i : ℕ) (qs : List ℕ) → InRows (rows_on P qs) k i → KeyIn k i (rows_by_page P qs)
in_rows_on P k i [] m = absurd m.1
in_rows_on P k i (q ∷ qs) m = elim (lists.in_either m.0 (rows_of (P q)) (rows_on P qs) m.1) [
  | inl a ↦ inl (m.0, a, m.2, m.3)
  | inr c ↦ inr (in_rows_on P k i qs (m.0, c, m.2, m.3))
]

filled : (P : Pages) (qs : List ℕ) → ((q : ℕ) → In q qs → rows_of (P q) ≢ []) → Filled (rows_by_page P qs)
filled P [] some = tt
filled P (q ∷ qs) some = (some q (inl refl), filled P qs (λ p i. some p (inr i)))

own_rows : (P : Pages) (i : ℕ) (qs : List ℕ) → ((q : ℕ) (w : Row) → In q qs → In w (rows_of (P q)) → w.item ≡ i)
    → (j : ℕ) → InLine j (rows_by_page P qs) → j ≡ i
own_rows P i [] own j m = absurd m
own_rows P i (q ∷ qs) own j (inl w) = sym w.2 ∙ own q w.0 (inl refl) w.1
own_rows P i (q ∷ qs) own j (inr m) = own_rows P i qs (λ p w k. own p w (inr k)) j m

module _ (n L : ℕ) (R : Log) (P Q : Pages) (r : Record) (since : ℕ) (g : Ghost) (v : Inv n L R P g)
    (l : Left n since R P Q r) (some : R ≢ []) (x : IsLinkPending R P Q r) where
  abbrev item : ℕ
  item = x.here.doc.item

  abbrev a : ℕ
  a = page_of item

  abbrev chain : List ℕ
  chain = x.rest.front ++ x.here.end ∷ []

  abbrev linked : ((P a ≡ x.here.old) × (Q a ≡ x.here.heap_then))
      × LinkPages P Q r a x.here.head.private x.here.end x.here.added
  linked = link_pages P Q r a x.here.head.private x.here.end x.here.added x.here.old x.here.heap_then x.here.others
      x.here.others_before x.here.others_after x.here.linked x.here.pages x.here.before_is x.here.after_is
      x.rest.is_last

  has : Has P x.here.doc x.here.head
  has = (link_turned R P Q r n since l.touched l.elsewhere x).was

  runs : fate R x.here.head.inserted_by ≡ Running
  runs = ap (fate R) x.here.own.by ∙ x.here.own.runs

  -- the pages of the chain are those of the item's private place
  the_chain : ChainOf P x.here.head.private (λ q. g.place q ≡ private_of item)
  the_chain = v.chained.private.some item x.here.head has.at

  pages_are : the_chain.pages ≡ chain
  pages_are = chain_one P x.here.head.private the_chain.pages chain the_chain.is_chain x.rest.is_chain

  on_chain : (q : ℕ) → In q chain → g.place q ≡ private_of item
  on_chain q i = (the_chain.on q).0 (subst (In q) (sym pages_are) i)

  in_chain : (q : ℕ) → g.place q ≡ private_of item → In q chain
  in_chain q e = subst (In q) pages_are ((the_chain.on q).1 e)

  heap_at : g.place a ≡ heap
  heap_at = place_for L (g.place a) (P a) (body.Heap x.here.head_after.slots) (v.kinds a)
      (ap (λ (p : Page). p.body) linked.0.0 ∙ x.here.head_after.before)

  -- a page that changes: the heap page, the metapage, or the last page of the list
  data Changed (q : ℕ) : Type 0 where
    heap_page : q ≡ a → Changed q
    metapage : q ≡ 0 → Changed q
    list_page : (rows : List Row) → (P q).body ≡ body.Pending rows → (Q q).body ≡ body.Pending rows
        → g.place q ≡ line → Changed q

  place_of_last : (front : List ℕ) (last : ℕ) → Line P (front ++ last ∷ []) → g.place last ≡ line
  place_of_last front last is = (v.lined.on last).0
      (subst (In last) (chain_one P (first_of (P 0)) (front ++ last ∷ []) g.line is v.lined.is_line)
      (in_back last front (last ∷ []) (inl refl)))

  changed_is : (q : ℕ) → LinkPages P Q r a x.here.head.private x.here.end x.here.added → In q (changed r) → Changed q
  changed_is q (LinkPages.empty count pages was now) i = elim (subst (In q) pages i)
      [ inl e ↦ Changed.heap_page e | inr (inl e) ↦ Changed.metapage e | inr (inr z) ↦ absurd z ]
  changed_is q (LinkPages.behind first last count rows front pages was now rows_was rows_now is) i =
      elim (subst (In q) pages i) [
        | inl e ↦ Changed.heap_page e
        | inr (inl e) ↦ Changed.metapage e
        | inr (inr (inl e)) ↦ subst Changed (sym e)
            (Changed.list_page rows rows_was (ap (λ (p : Page). p.body) rows_now) (place_of_last front last is))
        | inr (inr (inr z)) ↦ absurd z
      ]

  meta_now : LinkPages P Q r a x.here.head.private x.here.end x.here.added
      → (first : ℕ) × (count : ℕ) × ((Q 0).body ≡ body.Meta first x.here.end (count + x.here.added))
      × (count ≡ length g.line)
  meta_now (LinkPages.empty count pages was now) = let c = v.lined.counted some in
      (x.here.head.private, count, now, (meta_count _ _ _ _ _ _ (sym was ∙ c.1)).1)
  meta_now (LinkPages.behind first last count rows front pages was now rows_was rows_now is) = let c =
      v.lined.counted some in (first, count, now, (meta_count _ _ _ _ _ _ (sym was ∙ c.1)).1)

  -- who is neither on a heap page, nor on the metapage, nor on the list stays as it is
  stays : (q : ℕ) (y : Place) → g.place q ≡ y → y ≢ heap → y ≢ meta → y ≢ line → Q q ≡ P q
  stays q y at h m k = elim (in_or_not q (changed r)) [
    | inr off ↦ l.elsewhere q off
    | inl i ↦ absurd (go (changed_is q linked.1 i))
  ]
    where
      go : Changed q → ⊥
      go (Changed.heap_page e) = h (sym at ∙ ap g.place e ∙ heap_at)
      go (Changed.metapage e) = m (sym at ∙ ap g.place e ∙ v.starts.page_0 some)
      go (Changed.list_page rows was now on) = k (sym at ∙ on)

  chain_same : (q : ℕ) → In q chain → Q q ≡ P q
  chain_same q i = stays q (private_of item) (on_chain q i) (λ z. cc) (λ z. cc) (λ z. cc)

  -- rows of the list stay
  rows_same : (q : ℕ) → g.place q ≡ line → rows_of (Q q) ≡ rows_of (P q)
  rows_same q at = elim (in_or_not q (changed r)) [
    | inr off ↦ ap rows_of (l.elsewhere q off)
    | inl i ↦ go
        (changed_is q linked.1 i)
  ]
    where
      go : Changed q → rows_of (Q q) ≡ rows_of (P q)
      go (Changed.heap_page e) = let z : line ≡ heap = sym at ∙ ap g.place e ∙ heap_at in absurd (cc)
      go (Changed.metapage e) = let z : line ≡ meta = sym at ∙ ap g.place e ∙ v.starts.page_0 some in absurd (cc)
      go (Changed.list_page rows was now on) = ap (λ (c : Body). rows_of (record { right = 0; stamp = 0; body = c }))
          (now ∙ sym was)

  -- the ghosts after
  abbrev f : ℕ → Place
  f p = joined item (g.place p)

  abbrev ln : List ℕ
  ln = g.line ++ chain

  abbrev g' : Ghost
  g' = record g { place = f; line = ln }

  loose_at : (p : ℕ) (y : Place) → Loose y → g.place p ≡ y → f p ≡ y → Fits L y (Q p)
      → PageNow n since L R P Q r g v l f ln p
  loose_at p y loose at now fits = PageNow.loose (subst Loose (sym at) loose) (subst Loose (sym now) loose)
      (subst (λ (z : Place). Fits L z (Q p)) (sym now) fits)

  changed_now : (p : ℕ) → Changed p → PageNow n since L R P Q r g v l f ln p
  changed_now p (Changed.heap_page e) =
      let at : g.place p ≡ heap = ap g.place e ∙ heap_at in
      loose_at p heap (record { entry = refl; post = refl }) at (ap (joined item) at) (
        x.here.head_after.new_slots,
        ap (λ (z : ℕ). (Q z).body) e
            ∙ ap (λ (q : Page). q.body) (linked.0.1 ∙ x.here.head_after.after),
      )
  changed_now p (Changed.metapage e) =
      let at : g.place p ≡ meta = ap g.place e ∙ v.starts.page_0 some in
      let m = meta_now linked.1 in
      loose_at p meta (record { entry = refl; post = refl }) at (ap (joined item) at)
      (m.0, x.here.end, m.1 + x.here.added, ap (λ (z : ℕ). (Q z).body) e ∙ m.2)
  changed_now p (Changed.list_page rows was now on) = loose_at p line (record { entry = refl; post = refl }) on
      (ap (joined item) on) (rows, now)

  each : (p : ℕ) → PageNow n since L R P Q r g v l f ln p
  each p = elim (joined_back item (g.place p)) [
    | inr private ↦
        let same : Q p ≡ P p = stays p (private_of item) private.0 (λ z. cc) (λ z. cc) (λ z. cc) in
        let fits : Fits L (private_of item) (P p) = subst (λ (y : Place). Fits L y (P p)) private.0 (v.kinds p) in
        PageNow.loose (subst Loose (sym private.0) (record { entry = refl; post = refl }))
        (subst Loose (sym private.1) (record { entry = refl; post = refl }))
        (subst (λ (y : Place). Fits L y (Q p)) (sym private.1) (fits.0, ap (λ (q : Page). q.body) same ∙ fits.1))
    | inl same ↦ elim (in_or_not p (changed r))
        [ inr off ↦ PageNow.same same (l.elsewhere p off) | inl i ↦ changed_now p (changed_is p linked.1 i) ]
  ]

  -- the first pages
  starts : PagesStart (r ∷ R) Q g'
  starts = record {
    page_0 = λ k. joined_on item (g.place 0) meta (v.starts.page_0 some) (λ z. cc);
    no_other = λ p e. v.starts.no_other p (joined_was item (g.place p) meta e (λ z. cc));
    page_1 = λ k. let h = v.starts.page_1 some in (h.0, joined_on item (g.place 1) (entry h.0) h.1 (λ z. cc));
    lower = λ p q low e. joined_on item (g.place p) unused
        (v.starts.lower p q low (joined_was item (g.place q) unused e (λ z. cc))) (λ z. cc);
    stamps = l.stamps;
  }

  -- the pending list
  chain_now : IsChain Q x.here.head.private chain
  chain_now = chain_kept P Q x.here.head.private chain (λ q i. ap (λ (p : Page). p.right) (chain_same q i))
      x.rest.is_chain

  line_right : (q last : ℕ) (count : ℕ) (front : List ℕ) → g.place q ≡ line → q ≢ last
      → changed r ≡ a ∷ 0 ∷ last ∷ [] → (Q q).right ≡ (P q).right
  line_right q last count front at off pages = ap (λ (p : Page). p.right)
      (l.elsewhere q (λ i. elim (subst (In q) pages i) [
        | inl e ↦ let z : line ≡ heap = sym at ∙ ap g.place e ∙ heap_at in cc
        | inr (inl e) ↦ let z : line ≡ meta = sym at ∙ ap g.place e ∙ v.starts.page_0 some in cc
        | inr (inr (inl e)) ↦ off e
        | inr (inr (inr z)) ↦ z
      ]))

  line_now : LinkPages P Q r a x.here.head.private x.here.end x.here.added
      → Line Q ln × ((first_of (Q 0) ≡ first_of (P 0)) ⊎ (g.line ≡ []))
  line_now (LinkPages.empty count pages was now) =
      let none : g.line ≡ [] = none_chain P (first_of (P 0)) g.line (ap first_in was) v.lined.is_line in (
        subst (λ (qs : List ℕ). Line Q (qs ++ chain)) (sym none)
            (subst (λ (z : ℕ). IsChain Q z chain) (sym (ap first_in now)) chain_now),
        inr none,
      )
  line_now (LinkPages.behind first last count rows front pages was now rows_was rows_now is) =
      let same : g.line ≡ front ++ last ∷ [] = chain_one P (first_of (P 0)) g.line
      (front ++ last ∷ []) v.lined.is_line is in
      let start : first_of (Q 0) ≡ first_of (P 0) = ap first_in now ∙ sym (ap first_in was) in
      let at : (q : ℕ) → In q front
      → g.place q ≡ line = λ q i. (v.lined.on q).0 (subst (In q) (sym same) (in_front q front (last ∷ []) i)) in
      let once : (q : ℕ) → In q front → q ≢ last = λ q i e. last_once P (first_of (P 0)) last front is
      (subst (λ (z : ℕ). In z front) e i) in
      let whole : IsChain Q (first_of (P 0)) (front ++ last ∷ chain) =
      chain_join P Q (first_of (P 0)) last x.here.head.private front chain is
      (λ q i. line_right q last count front (at q i) (once q i) pages)
      (ap (λ (p : Page). p.right) rows_now) chain_now in
      let lists_same : front ++ last ∷ chain ≡ ln = sym (append_assoc front (last ∷ []) chain)
      ∙ ap (λ (qs : List ℕ). qs ++ chain) (sym same) in
      (subst (λ (z : ℕ). IsChain Q z ln) (sym start) (subst (IsChain Q (first_of (P 0))) lists_same whole), inl start)

  some_row : (p : ℕ) → f p ≡ line → rows_of (Q p) ≢ []
  some_row p e z = elim (joined_back item (g.place p)) [
    | inl same ↦ v.lined.some_row p (sym same ∙ e) (sym (rows_same p (sym same ∙ e)) ∙ z)
    | inr private ↦ v.rows_owned.private_row p item private.0
        (ap rows_of (sym (stays p (private_of item) private.0 (λ y. cc) (λ y. cc) (λ y. cc))) ∙ z)
  ]

  lined : IsLined (r ∷ R) Q g'
  lined = record {
    is_line = (line_now linked.1).0;
    on = λ p. (
      λ i. elim (lists.in_either p g.line chain i) [
        | inl m ↦ joined_on item (g.place p) line ((v.lined.on p).0 m) (λ z. cc)
        | inr m ↦ ap (joined item) (on_chain p m) ∙ joined_here item
      ],
      λ e. elim (joined_back item (g.place p)) [
        | inl same ↦ in_front p g.line chain ((v.lined.on p).1 (sym same ∙ e))
        | inr private ↦ in_back p g.line chain (in_chain p private.0)
      ],
    );
    some_row = some_row;
    counted = λ k.
        let m = meta_now linked.1 in
        let end : x.here.end ≡ last_of ln = sym
        (ap last_of (sym (append_assoc g.line x.rest.front (x.here.end ∷ [])))
        ∙ last_is (g.line ++ x.rest.front) x.here.end) in
        let size : m.1 + x.here.added ≡ length ln = ap₂ (λ (c d : ℕ). c + d) m.3 x.rest.pages
        ∙ sym (length-append g.line chain) in
        (m.0, m.2 ∙ ap₂ (λ (c d : ℕ). body.Meta m.0 c d) end size);
  }

  new_row : (w : Row) → w.item ≡ item → NewRow R P w.item
  new_row w e = record { doc = x.here.doc; head = x.here.head; item = sym e; has = has; runs = runs }

  chain_item : (q : ℕ) (w : Row) → In q chain → In w (rows_of (P q)) → w.item ≡ item
  chain_item q w i m = v.rows_owned.private_item q item w (on_chain q i) m

  line_step : LineStep R P Q g g'
  line_step = LineStep.grow chain refl (line_now linked.1).1
      (λ q i w m. new_row w (chain_item q w i (subst (λ (p : Page). In w (rows_of p)) (chain_same q i) m)))
      (λ q i. ([], rows_same q ((v.lined.on q).0 i) ∙ sym (append-nil _), λ w j. absurd j))

  -- the document is whole after the record too
  whole_now : HasVector Q x.here.doc x.rest.vector
  whole_now = elim (l.whole x.here.doc x.here.head x.rest.vector has x.rest.whole) [
    | inl w ↦ w
    | inr gone ↦ absurd (runs_alive n R P v.heads x.here.doc x.here.head has runs gone.0)
  ]

  chain_owned : (q : ℕ) (w : Row) → g.place q ≡ private_of item → In w (rows_of (P q)) → RowOwned Q w
  chain_owned q w at m = elim (v.rows_owned.on_private q item w x.here.head at m has.at) [
    | inl dead ↦ absurd (runs_alive n R P v.heads x.here.doc x.here.head has runs
        (subst (IsDead R n) (ap (doc_at item) has.serial) dead))
    | inr o ↦
        let own : w.item ≡ item = v.rows_owned.private_item q item w at m in
        let same = same_doc P o.doc x.here.doc o.head x.here.head o.has has (o.item ∙ own) in
        let v_same : o.vector ≡ x.rest.vector = whole_one P x.here.head o.vector x.rest.vector
        (subst (λ (h : Head). IsWhole P h o.vector) same.1 o.whole) x.rest.whole in
        record {
          doc = x.here.doc;
          head = whole_now.0;
          vector = x.rest.vector;
          item = sym own;
          has = whole_now.1;
          whole = whole_now.2;
          keys = λ k i. subst (λ (u : Vector). In k (keys_of u)) v_same (o.keys k i);
        }
  ]

  lines : (q : ℕ) (w : Row) → f q ≡ line → In w (rows_of (Q q))
      → ((p : ℕ) × (g.place p ≡ line) × In w (rows_of (P p))) ⊎ RowOwned Q w
  lines q w e i = elim (joined_back item (g.place q)) [
    | inl same ↦ inl (q, sym same ∙ e, subst (In w) (rows_same q (sym same ∙ e)) i)
    | inr private ↦ inr (chain_owned q w private.0
        (subst (λ (p : Page). In w (rows_of p)) (stays q (private_of item) private.0 (λ z. cc) (λ z. cc) (λ z. cc))
        i))
  ]

  privates_now : (q j : ℕ) → f q ≡ private_of j → PrivateNow n since L R P Q r g v l g' q j
  privates_now q j e =
      let at : g.place q ≡ private_of j = joined_was item (g.place q) (private_of j) e (λ z. cc) in
      PrivateNow.was at (ap rows_of (stays q (private_of j) at (λ z. cc) (λ z. cc) (λ z. cc)))

  same_item : (i j : ℕ) → private_of i ≡ private_of j → i ≡ j
  same_item i j e = cc

  chained : AreChained Q g'
  chained = record {
    overflow = overflows_stay R P Q r n since l.touched l.elsewhere (λ i q. g.place q ≡ overflow_of i)
        (λ i q. f q ≡ overflow_of i) (overflows n L R P g v)
        (subst LeavesOverflows (sym x.here.kind_is) tt)
        (λ i q. (
          λ e. joined_on item (g.place q) (overflow_of i) e (λ z. cc),
          λ e. joined_was item (g.place q)
              (overflow_of i) e (λ z. cc),
        )) l.turns;
    private = link_privates R P Q r n since l.touched l.elsewhere g.line (λ i q. g.place q ≡ private_of i)
        (λ i q. f q ≡ private_of i) (privates n L R P g v) x
        (λ i q. (
          λ e. joined_on item (g.place q) (private_of i) e.0 (λ z. e.1 (same_item i item z)),
          λ e.
              let at : g.place q ≡ private_of i = joined_was item (g.place q) (private_of i) e (λ z. cc) in (
                at,
                λ z.
                    let here : f q ≡ line = ap (joined item) (at ∙ ap (λ (j : ℕ). private_of j) z) ∙ joined_here item in
                    let clash : line ≡ private_of i = sym here ∙ e in
                    cc,
              ),
        ));
  }

  -- the rows by page
  rows_split : rows_by_page Q ln ≡ rows_by_page P g.line ++ rows_by_page P chain
  rows_split =
      map-append (λ (q : ℕ). rows_of (Q q)) g.line chain
      ∙ ap₂ (λ (ys zs : List (List Row)). ys ++ zs)
      (same_rows n since L R P Q r g v l g.line (λ q i. rows_same q ((v.lined.on q).0 i)))
      (same_rows n since L R P Q r g v l chain (λ q i. ap rows_of (chain_same q i)))

  own : (j : ℕ) → InLine j (rows_by_page P chain) → j ≡ item
  own = own_rows P item chain (λ q w i m. chain_item q w i m)

  was_none : InLine item (rows_by_page P g.line) → ⊥
  was_none m = x.rest.no_row (on_line_row n since L R P Q r g v l item m)

  complete : Complete Q (rows_by_page P g.line ++ rows_by_page P chain)
  complete i m = elim (in_either i (rows_by_page P g.line) (rows_by_page P chain) m) [
    | inr new ↦ inr (record {
      doc = x.here.doc;
      vector = x.rest.vector;
      item = sym (own i new);
      whole = whole_now;
      keys = λ k j. subst (λ (z : ℕ). KeyIn k z (rows_by_page P g.line ++ rows_by_page P chain)) (sym (own i new))
          (key_behind k item (rows_by_page P g.line) (rows_by_page P chain)
          (in_rows_on P k item chain (x.rest.all_keys k j)));
    })
    | inl old ↦ elim (v.grouped.complete i old) [
      | inl first ↦ inl (first_more i (rows_by_page P g.line) (rows_by_page P chain) first)
      | inr k ↦
          let on = all_keys_stay n since L R P Q r g v l i (rows_by_page P g.line)
          (on_line_row n since L R P Q r g v l i old) k in
          inr (record {
            doc = on.doc;
            vector = on.vector;
            item = on.item;
            whole = on.whole;
            keys = λ key j. key_before key i (rows_by_page P g.line) (rows_by_page P chain) (on.keys key j);
          })
    ]
  ]

  grouped : RowsGrouped Q ln
  grouped = record {
    grouped = subst Grouped (sym rows_split)
        (link_grouped (rows_by_page P g.line) (rows_by_page P chain) item v.grouped.grouped
        (chain_grouped (rows_by_page P chain) item
        (filled P chain (λ q i. v.rows_owned.private_row q item (on_chain q i))) own) own was_none);
    complete = subst (Complete Q) (sym rows_split) complete;
  }

  the_case : Case n L R P Q r g g'
  the_case = record {
    kinds = kinds_now n since L R P Q r g v l f ln each;
    starts = starts;
    lined = lined;
    trees = trees_now n since L R P Q r g v l f ln each;
    named = named_now n since L R P Q r g v l f ln each;
    chained = chained;
    rows_owned = rows_stay n since L R P Q r g v l g' privates_now lines;
    items_owned = items_now n since L R P Q r g v l f ln each;
    grouped = grouped;
    main = main_now n since L R P Q r g v l f ln each;
    line = line_step;
    shifted_stays = λ p e. joined_on item (g.place p) shifted e (λ z. cc);
  }

  -- so the document is indexed
  pub indexed_now : IsIndexed Q x.here.doc
  indexed_now = record {
    vector = x.rest.vector;
    whole = whole_now;
    there = inl (λ k m.
        let w = x.rest.all_keys k m in
        let o = on_some P chain w.0 w.1 in
        record {
          row = w.0;
          linked = record {
            line = ln;
            is_line = lined.is_line;
            page = o.0;
            on = in_back o.0 g.line chain o.1;
            there = subst (λ (p : Page). In w.0 (rows_of p)) (sym (chain_same o.0 o.1)) o.2;
          };
          item = w.2;
          key = w.3;
        });
  }

pub link_pending_case : CaseOf (λ R P Q r floor since. IsLinkPending R P Q r)
link_pending_case n L R P Q r floor since g b l x =
    let some = not_first R r (kind.LinkPending x.here.doc.item x.here.doc.serial) b.started x.here.kind_is
    (λ e. cc) in
    (g' n L R P Q r since g b.inv l some x, the_case n L R P Q r since g b.inv l some x)
