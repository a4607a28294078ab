-- The cases of the records that change documents' pages: heads that are placed and marked, parts and rows that are put,
-- pages that are dropped and slots that are freed.
use Rattle.std.proofs.Common.{◌≡◌, ◌≢◌, ◌⊎◌, ◌<◌, ℕ, List, [], ◌∷◌, refl, sym, ap, subst, ◌∙◌, inl, inr}
use Rattle.std.specs.Prelude.{◌↔◌}
use Rattle.page_types.specs.Views.{rows_of}
use Rattle.page_types.specs.declared.page.Page.{Page}
use Rattle.page_types.specs.declared.page.Row.{Row}
use Rattle.page_types.specs.declared.page.Body.TheVariants as body
use Rattle.page_types.specs.declared.record.Record.{Record}
use Rattle.page_types.specs.declared.record.Kind.{Kind}
use Rattle.page_types.specs.declared.record.Kind.TheVariants as kind
use Rattle.core_state.specs.Log.{Log, Pages, In, changed, fate}
use Rattle.core_state.specs.Documents.{Has, page_of}
use Rattle.core_state.specs.Known.{use_in}
use Rattle.core_state.specs.Changes.{made_with, IsNew}
use Rattle.core_state.specs.HeapRules.{IsPlaceHead, IsPutOverflow, IsMarkDeleted}
use Rattle.core_state.specs.PendingRules.{IsPutPending}
use Rattle.core_state.specs.VacuumRules.{IsDropPage, IsFreeSlots}
use Rattle.core_state.specs.Trees.Nodes.{put}
use Rattle.core_state.specs.Inner.Ghosts.{Place, Ghost}
use Rattle.core_state.specs.Inner.Ghosts.Place.{unused, meta, heap, past, overflow_of, private_of}
use Rattle.core_state.specs.Inner.Kinds.{Fits}
use Rattle.core_state.specs.Inner.PageKinds.{IsHeap, IsMeta}
use Rattle.core_state.specs.Inner.Owners.{RowOwned}
use Rattle.ts_base.specs.Keys.{Key}
use Rattle.core_state.specs.Index.{keys_on}
use Rattle.core_state.proofs.PageLists.{same_or_not, one_page, two_pages, in_front, in_back}
use Rattle.core_state.proofs.TouchedPages.{head_was}
use Rattle.core_state.proofs.HeadSteps.{rows_turned}
use Rattle.core_state.proofs.StaysIndexed.{runs_alive}
use Rattle.core_state.proofs.ChainFrames.{first_in}
use Rattle.core_state.proofs.ChainRows.{LeavesOverflows, LeavesPrivates, DropsFrom, overflows_stay, put_overflows}
use Rattle.core_state.proofs.ChainRows.{privates_stay, put_privates, drop_overflows, drop_privates, drops_from}
use Rattle.core_state.proofs.Law.ChainsStay.{overflows, privates, chained_stay}
use Rattle.core_state.proofs.Trees.Order.{put_here, put_else}
use Rattle.core_state.proofs.Law.Steps.{Before, Left, Case, CaseOf}
use Rattle.core_state.proofs.Law.SamePages.{not_first}
use Rattle.core_state.proofs.Law.OwnersStay.{PrivateNow}
use Rattle.core_state.proofs.Law.PutPlaces.{put_same, put_back}
use Rattle.core_state.proofs.Law.NewPlaces.{nowhere_not, new_nowhere, none_lower}
use Rattle.core_state.proofs.Law.DocumentPlaces.{IsDocPlace, heap_place, heap_fits}
use Rattle.core_state.proofs.Law.DocumentStep.{moved, DocStep, doc_case}

-- places where one page gets another
module _ (f : ℕ → Place) (a : ℕ) (x : Place) where
  pub put_less : (y : Place) → x ≢ y → (q : ℕ) → ((f q ≡ y) × (q ≢ a)) ↔ (put f a x q ≡ y)
  put_less y now q = (λ e. put_else f a x q e.1 ∙ e.0, λ e. let b = put_back f a x y now q e in (b.1, b.0))

  -- the page comes to those of item j, where `at` names the places of items
  pub put_more : (at : ℕ → Place) (j : ℕ) → ((i k : ℕ) → at i ≡ at k → i ≡ k) → x ≡ at j → ((i : ℕ) → f a ≢ at i)
      → (i q : ℕ) → (((i ≡ j) × (q ≡ a)) ⊎ (f q ≡ at i)) ↔ (put f a x q ≡ at i)
  put_more at j one is was i q = elim (same_or_not a q) [
    | inl s ↦ (
      (λ e. elim e [
        | inl w ↦ ap (put f a x) s ∙ put_here f a x ∙ is ∙ ap at (sym w.0)
        | inr w ↦
            absurd (was i (ap f (sym s) ∙ w))
      ]),
      (λ e. inl (one i j (sym e ∙ ap (put f a x) s ∙ put_here f a x ∙ is), s)),
    )
    | inr s ↦ (
      (λ e. elim e [ inl w ↦ absurd (s w.1) | inr w ↦ put_else f a x q s ∙ w ]),
      (λ e. inr (sym (put_else f a x q s) ∙ e)),
    )
  ]

overflow_one : (i k : ℕ) → overflow_of i ≡ overflow_of k → i ≡ k
overflow_one i k e = cc

private_one : (i k : ℕ) → private_of i ≡ private_of k → i ≡ k
private_one i k e = cc

module _ (n L : ℕ) (R : Log) (P Q : Pages) (r : Record) (floor since : ℕ) (g : Ghost) (b : Before n L R P Q r floor
    since g) (l : Left n since R P Q r) where
  -- a record that changes one heap page, old or new
  heap_step : (a : ℕ) → changed r ≡ a ∷ [] → IsHeap (P a).body ⊎ IsNew (use_in P) since a → IsHeap (Q a).body → R ≢ []
      → DocStep L P Q g a heap
  heap_step a e (inl was) is some =
      let at : g.place a ≡ heap = heap_place L (g.place a) (P a) (b.inv.kinds a) was in
      record {
        old = subst IsDocPlace (sym at) tt;
        new = tt;
        used = λ z. cc;
        fits = heap_fits L (Q a) is;
        lowest = λ z q lt free. let f : heap ≡ unused = sym at ∙ z in cc;
        others = λ p off. inl (l.elsewhere p (λ i. elim (subst (In p) e i) [ inl s ↦ off s | inr m ↦ m ]));
      }
  heap_step a e (inr new) is some =
      let at = new_nowhere L since R P g b.inv.kinds b.inv.starts b.since_is a new in
      record {
        old = elim at [ inl u ↦ subst IsDocPlace (sym u) tt | inr u ↦ subst IsDocPlace (sym u) tt ];
        new = tt;
        used = λ z. cc;
        fits = heap_fits L (Q a) is;
        lowest = λ z q lt free. none_lower L since R P Q r g b.inv.kinds b.inv.starts b.since_is some a new q lt free;
        others = λ p off. inl (l.elsewhere p (λ i. elim (subst (In p) e i) [ inl s ↦ off s | inr m ↦ m ]));
      }

  heap_not : (a : ℕ) (y : Place) → IsHeap (P a).body ⊎ IsNew (use_in P) since a → (heap ≡ y → ⊥) → (unused ≡ y → ⊥)
      → (past ≡ y → ⊥) → g.place a ≢ y
  heap_not a y (inl was) h u p e = h (sym (heap_place L (g.place a) (P a) (b.inv.kinds a) was) ∙ e)
  heap_not a y (inr new) h u p e = nowhere_not (g.place a) y (new_nowhere L since R P g b.inv.kinds b.inv.starts
      b.since_is a new) u p e

  pub heap_case : (a : ℕ) → changed r ≡ a ∷ [] → IsHeap (P a).body ⊎ IsNew (use_in P) since a → IsHeap (Q a).body
      → R ≢ [] → (k : Kind) → r.kind ≡ k → LeavesOverflows k → LeavesPrivates k
      → (g' : Ghost) × Case n L R P Q r g g'
  heap_case a e was is some k f lo lp = (
    moved g a heap,
    doc_case n L R P Q r since a g heap b.inv l some (heap_step a e was is some)
        (λ i z. absurd (let y : heap ≡ private_of i = z in cc))
        (chained_stay n since L R P Q r g b.inv l (moved g a heap) k f lo lp (λ i q. put_same g.place a heap
        (overflow_of i) (heap_not a (overflow_of i) was (λ z. cc) (λ z. cc) (λ z. cc)) (λ z. cc) q)
        (λ i q. put_same g.place a heap (private_of i) (heap_not a (private_of i) was (λ z. cc) (λ z. cc) (λ z. cc))
        (λ z. cc) q)),
  )

-- the page of a heap before and after
heap_was : (P : Pages) (a : ℕ) (old : Page) (slots : List _) → P a ≡ old → old.body ≡ body.Heap slots
    → IsHeap (P a).body
heap_was P a old slots e f = subst IsHeap (sym (ap (λ (q : Page). q.body) e ∙ f)) tt

heap_is : (Q : Pages) (a : ℕ) (r : Record) (right : ℕ) (slots : List _) → Q a ≡ made_with r right (body.Heap slots)
    → IsHeap (Q a).body
heap_is Q a r right slots e = subst IsHeap (sym (ap (λ (q : Page). q.body) e)) tt

pub place_head_case : CaseOf (λ R P Q r floor since. IsPlaceHead R P Q r since)
place_head_case n L R P Q r floor since g b l x =
    let a = page_of x.here.doc.item in
    let k = kind.PlaceHead x.here.doc.item x.here.doc.serial in
    let f = one_page P (changed r) a x.here.old x.here.pages x.here.before_is in
    let h = one_page Q (changed r) a (made_with r x.here.right (body.Heap x.here.new_slots)) x.here.pages
    x.here.after_is in
    let was : IsHeap (P a).body ⊎ IsNew (use_in P) since a = elim x.here.page [
      | inl o ↦
          inl (heap_was P a x.here.old x.here.slots f o.0)
      | inr o ↦ inr o.2
    ] in
    heap_case n L R P Q r floor since g b l a x.here.pages was (heap_is Q a r x.here.right x.here.new_slots h)
    (not_first R r k b.started x.here.kind_is (λ e. cc)) k x.here.kind_is tt tt

pub mark_deleted_case : CaseOf (λ R P Q r floor since. IsMarkDeleted R P Q r)
mark_deleted_case n L R P Q r floor since g b l x =
    let a = page_of x.here.doc.item in
    let k = kind.MarkDeleted x.here.doc.item x.here.doc.serial in
    let c = x.here.head_after in
    let f = one_page P (changed r) a x.here.old x.here.pages x.here.before_is in
    let h = one_page Q (changed r) a x.here.heap_then x.here.pages x.here.after_is in
    heap_case n L R P Q r floor since g b l a x.here.pages (inl (heap_was P a x.here.old c.slots f c.before))
    (heap_is Q a r x.here.old.right c.new_slots (h ∙ c.after))
    (not_first R r k b.started x.here.kind_is (λ e. cc)) k x.here.kind_is tt tt

pub free_slots_case : CaseOf (λ R P Q r floor since. IsFreeSlots R P Q r floor)
free_slots_case n L R P Q r floor since g b l x =
    let a = x.here.page in
    let f = one_page P (changed r) a x.here.old x.here.pages x.here.before_is in
    let h = one_page Q (changed r) a (made_with r x.here.old.right (body.Heap x.here.new_slots)) x.here.pages
    x.here.after_is in
    heap_case n L R P Q r floor since g b l a x.here.pages (inl (heap_was P a x.here.old x.here.slots f x.here.was))
    (heap_is Q a r x.here.old.right x.here.new_slots h)
    (not_first R r kind.FreeSlots b.started x.here.kind_is (λ e. cc)) kind.FreeSlots x.here.kind_is tt tt

module _ (n L : ℕ) (R : Log) (P Q : Pages) (r : Record) (floor since : ℕ) (g : Ghost) (b : Before n L R P Q r floor
    since g) (l : Left n since R P Q r) (some : R ≢ []) where
  -- the metapage
  meta_there : IsMeta (P 0).body
  meta_there =
      let f : Fits L meta (P 0) = subst (λ (y : Place). Fits L y (P 0)) (b.inv.starts.page_0 some) (b.inv.kinds 0) in
      subst IsMeta (sym f.3) tt

  -- where two pages change, and the first is a heap page
  pub two_step : (h a : ℕ) (x : Place) → changed r ≡ h ∷ a ∷ [] → IsHeap (P h).body → IsHeap (Q h).body
      → IsDocPlace (g.place a) → IsDocPlace x → x ≢ unused → Fits L x (Q a)
      → (g.place a ≡ unused → (q : ℕ) → q < a → g.place q ≢ unused) → DocStep L P Q g a x
  two_step h a x e was is old new used fits lowest = record {
    old = old;
    new = new;
    used = used;
    fits = fits;
    lowest = lowest;
    others = λ p off. elim (same_or_not h p) [
      | inl s ↦ inr (subst (λ (z : ℕ). IsHeap (P z).body × IsHeap (Q z).body) (sym s) (was, is))
      | inr d ↦ inl (l.elsewhere p (λ i. elim (subst (In p) e i) [
        | inl s ↦ d s
        | inr (inl s) ↦ off s
        | inr (inr m) ↦
            m
      ]))
    ];
  }

  -- where the other one is a new page
  new_step : (h a : ℕ) (x : Place) → changed r ≡ h ∷ a ∷ [] → IsHeap (P h).body → IsHeap (Q h).body
      → IsNew (use_in P) since a → IsDocPlace x → x ≢ unused → Fits L x (Q a) → DocStep L P Q g a x
  new_step h a x e was is new doc used fits =
      let at = new_nowhere L since R P g b.inv.kinds b.inv.starts b.since_is a new in
      two_step h a x e was is (elim at [ inl u ↦ subst IsDocPlace (sym u) tt | inr u ↦ subst IsDocPlace (sym u) tt ])
      doc used fits
      (λ z q lt free. none_lower L since R P Q r g b.inv.kinds b.inv.starts b.since_is some a new q lt free)

  new_not : (a : ℕ) (y : Place) → IsNew (use_in P) since a → (unused ≡ y → ⊥) → (past ≡ y → ⊥) → g.place a ≢ y
  new_not a y new u p e = nowhere_not (g.place a) y (new_nowhere L since R P g b.inv.kinds b.inv.starts b.since_is a
      new) u p e

  pub overflow_put : (x : IsPutOverflow R P Q r since) → Case n L R P Q r g
      (moved g x.here.new (overflow_of x.here.doc.item))
  overflow_put x =
      let a = x.here.new in
      let i = x.here.doc.item in
      let h = page_of i in
      let c = x.here.head_after in
      let f = two_pages P (changed r) h a x.here.old x.here.was x.here.pages x.here.before_is in
      let e =
      two_pages Q (changed r) h a x.here.heap_then (made_with r x.here.head.overflow (body.Overflow x.here.part))
      x.here.pages x.here.after_is in
      let k = kind.PutOverflow x.here.doc.item x.here.doc.serial in
      doc_case n L R P Q r since a g (overflow_of i) b.inv l some
      (new_step h a (overflow_of i) x.here.pages (heap_was P h x.here.old c.slots f.0 c.before)
      (heap_is Q h r x.here.old.right c.new_slots (e.0 ∙ c.after)) x.here.is_new tt (λ z. cc)
      (x.here.part, ap (λ (q : Page). q.body) e.1))
      (λ j z. absurd (let y : overflow_of i ≡ private_of j = z in cc))
      (record {
        overflow = put_overflows R P Q r floor since l.touched l.elsewhere (λ i q. g.place q ≡ overflow_of i)
            (λ j q. put g.place a (overflow_of i) q ≡ overflow_of j) (overflows n L R P g b.inv) meta_there x
            (λ j q. put_more g.place a (overflow_of i) overflow_of i overflow_one refl (λ j. new_not a (overflow_of j)
            x.here.is_new (λ z. cc) (λ z. cc)) j q);
        private = privates_stay R P Q r n since l.touched l.elsewhere g.line (λ i q. g.place q ≡ private_of i)
            (λ j q. put g.place a (overflow_of i) q ≡ private_of j) (privates n L R P g b.inv)
            (subst LeavesPrivates (sym x.here.kind_is) tt) (λ j q. put_same g.place a (overflow_of i) (private_of j)
            (new_not a (private_of j) x.here.is_new (λ z. cc) (λ z. cc)) (λ z. cc) q) l.turns;
      })

  -- the document of rows that are put owns them
  put_owned : (x : IsPutPending R P Q r since) (w : Row) → In w x.here.rows → RowOwned Q w
  put_owned x w on =
      let d = x.here.doc in
      let t = rows_turned R P Q r floor since l.touched l.elsewhere x in
      elim (l.whole d x.here.head x.rest.vector t.was x.rest.whole) [
        | inl now ↦ record {
          doc = d;
          head = now.0;
          vector = x.rest.vector;
          item = sym (x.here.items w on);
          has = now.1;
          whole = now.2;
          keys = λ k m. x.rest.keys k (in_keys w k x.here.rows on m);
        }
        | inr gone ↦ absurd (runs_alive n R P b.inv.heads d x.here.head t.was (ap (fate R) x.here.own.by
            ∙ x.here.own.runs) gone.0)
      ]
    where
      in_keys : (w : Row) (k : Key) (ws : List Row) → In w ws → In k w.keys → In k (keys_on ws)
      in_keys w k [] i m = absurd i
      in_keys w k (u ∷ ws) (inl s) m = in_front k u.keys (keys_on ws) (subst (λ (z : Row). In k z.keys) s m)
      in_keys w k (u ∷ ws) (inr i) m = in_back k u.keys (keys_on ws) (in_keys w k ws i m)

  pub pending_put : (x : IsPutPending R P Q r since) → Case n L R P Q r g
      (moved g x.here.new (private_of x.here.doc.item))
  pending_put x =
      let a = x.here.new in
      let i = x.here.doc.item in
      let h = page_of i in
      let c = x.here.head_after in
      let f = two_pages P (changed r) h a x.here.old x.here.was x.here.pages x.here.before_is in
      let e = two_pages Q (changed r) h a x.here.heap_then (made_with r x.here.head.private (body.Pending x.here.rows))
      x.here.pages x.here.after_is in
      let rows : rows_of (Q a) ≡ x.here.rows = ap rows_of e.1 in
      doc_case n L R P Q r since a g (private_of i) b.inv l some
      (new_step h a (private_of i) x.here.pages (heap_was P h x.here.old c.slots f.0 c.before)
      (heap_is Q h r x.here.old.right c.new_slots (e.0 ∙ c.after)) x.here.is_new tt (λ z. cc)
      (x.here.rows, ap (λ (q : Page). q.body) e.1))
      (λ j z. PrivateNow.new (λ y. x.here.some_row (sym rows ∙ y)) (λ w on. x.here.items w (subst (In w) rows on)
      ∙ private_one i j z) (λ w on. put_owned x w (subst (In w) rows on)))
      (record {
        overflow = overflows_stay R P Q r n since l.touched l.elsewhere (λ i q. g.place q ≡ overflow_of i)
            (λ j q. put g.place a (private_of i) q ≡ overflow_of j) (overflows n L R P g b.inv)
            (subst LeavesOverflows (sym x.here.kind_is) tt) (λ j q. put_same g.place a (private_of i) (overflow_of j)
            (new_not a (overflow_of j) x.here.is_new (λ z. cc) (λ z. cc)) (λ z. cc) q) l.turns;
        private = put_privates R P Q r floor since l.touched l.elsewhere g.line (λ i q. g.place q ≡ private_of i)
            (λ j q. put g.place a (private_of i) q ≡ private_of j) (privates n L R P g b.inv) meta_there x
            (λ j q. put_more g.place a (private_of i) private_of i private_one refl (λ j. new_not a (private_of j)
            x.here.is_new (λ z. cc) (λ z. cc)) j q);
      })

  -- the dropped page has the place of its document's chain
  dropped_place : (x : IsDropPage R P Q r floor) → DropsFrom P x.here.head x.here.head_then x.here.page
      → Has P x.here.doc x.here.head
      → (g.place x.here.page ≡ overflow_of x.here.doc.item) ⊎ (g.place x.here.page ≡ private_of x.here.doc.item)
  dropped_place x (DropsFrom.overflow e link other is) has =
      let c = b.inv.chained.overflow.some x.here.doc.item x.here.head has.at in
      inl (ap g.place (sym e) ∙ (c.on x.here.head.overflow).0 (first_in P x.here.head.overflow c.pages
      (λ z. x.here.not_none (sym e ∙ z)) c.is_chain))
  dropped_place x (DropsFrom.private e link other is) has =
      let c = b.inv.chained.private.some x.here.doc.item x.here.head has.at in
      inr (ap g.place (sym e) ∙ (c.on x.here.head.private).0 (first_in P x.here.head.private c.pages
      (λ z. x.here.not_none (sym e ∙ z)) c.is_chain))

  pub page_dropped : (x : IsDropPage R P Q r floor) → Case n L R P Q r g (moved g x.here.page past)
  page_dropped x =
      let a = x.here.page in
      let h = page_of x.here.doc.item in
      let c = x.here.head_after in
      let f = two_pages P (changed r) h a x.here.old x.here.was x.here.pages x.here.before_is in
      let e = two_pages Q (changed r) h a x.here.heap_then (made_with r x.here.was.right (body.Deleted x.here.content))
      x.here.pages x.here.after_is in
      let has = head_was P Q r since x.here.doc x.here.old x.here.heap_then x.here.head x.here.head_then f.0 c in
      let at = dropped_place x (drops_from R P Q r floor since l.touched l.elsewhere x) has in
      doc_case n L R P Q r since a g past b.inv l some
      (two_step h a past x.here.pages (heap_was P h x.here.old c.slots f.0 c.before) (heap_is Q h r x.here.old.right
      c.new_slots (e.0 ∙ c.after))
      (elim at [ inl y ↦ subst IsDocPlace (sym y) tt | inr y ↦ subst IsDocPlace (sym y) tt ]) tt (λ z. cc)
      (x.here.content, ap (λ (q : Page). q.body) e.1)
      (λ z q lt free. elim at [
        | inl y ↦ (let w : overflow_of x.here.doc.item ≡ unused = sym y ∙ z in cc)
        | inr y ↦
            (let w : private_of x.here.doc.item ≡ unused = sym y ∙ z in cc)
      ]))
      (λ j z. absurd (let y : past ≡ private_of j = z in cc))
      (record {
        overflow = drop_overflows R P Q r floor since l.touched l.elsewhere (λ i q. g.place q ≡ overflow_of i)
            (λ j q. put g.place a past q ≡ overflow_of j) (overflows n L R P g b.inv) x
            (λ j q. put_less g.place a past (overflow_of j) (λ z. cc) q);
        private = drop_privates R P Q r floor since l.touched l.elsewhere g.line (λ i q. g.place q ≡ private_of i)
            (λ j q. put g.place a past q ≡ private_of j) (privates n L R P g b.inv) x
            (λ j q. put_less g.place a past (private_of j) (λ z. cc) q);
      })

pub put_overflow_case : CaseOf (λ R P Q r floor since. IsPutOverflow R P Q r since)
put_overflow_case n L R P Q r floor since g b l x =
    let k = kind.PutOverflow x.here.doc.item x.here.doc.serial in (
      moved g x.here.new (overflow_of x.here.doc.item),
      overflow_put n L R P Q r floor since g b l
          (not_first R r k b.started x.here.kind_is (λ e. cc)) x,
    )

pub put_pending_case : CaseOf (λ R P Q r floor since. IsPutPending R P Q r since)
put_pending_case n L R P Q r floor since g b l x =
    let k = kind.PutPending x.here.doc.item x.here.doc.serial in (
      moved g x.here.new (private_of x.here.doc.item),
      pending_put n L R P Q r floor since g b l
          (not_first R r k b.started x.here.kind_is (λ e. cc)) x,
    )

pub drop_page_case : CaseOf (λ R P Q r floor since. IsDropPage R P Q r floor)
drop_page_case n L R P Q r floor since g b l x =
    let k = kind.DropPage x.here.doc.item x.here.doc.serial in (
      moved g x.here.page past,
      page_dropped n L R P Q r floor since g b l (not_first R r k b.started x.here.kind_is
          (λ e. cc)) x,
    )
