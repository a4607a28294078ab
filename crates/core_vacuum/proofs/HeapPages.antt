-- A page is a heap page just where a head was placed on it.
use Rattle.std.proofs.Common.{◌≡◌, ◌⊎◌, ℕ, ◌==◌, cond, suc, List, [], ◌∷◌, ◌++◌, length, map, refl, sym, ap, subst, ◌∙◌}
use Rattle.std.proofs.Common.{inl, inr, arith}
use Rattle.std.specs.Prelude.{Option}
use Rattle.page_types.specs.declared.page.Page.{Page}
use Rattle.page_types.specs.declared.page.Head.{Head}
use Rattle.page_types.specs.declared.page.Body.{Body}
use Rattle.page_types.specs.declared.page.Body.TheVariants as body
use Rattle.page_types.specs.declared.record.Record.{Record}
use Rattle.page_types.specs.declared.record.Kind.{Kind}
use Rattle.page_types.specs.declared.record.Kind.TheVariants as kind
use Rattle.core_state.specs.Log.{Log, Pages, In, Shows, changed, commits}
use Rattle.core_state.specs.Documents.{Doc, page_of, doc_at, placed, placed_with}
use Rattle.core_state.specs.Lives.{IsHeapPage}
use Rattle.core_state.specs.Legal.{RuleHolds, RecordsAreValid}
use Rattle.core_state.specs.Inner.PageKinds.{IsHeap, IsOverflow, IsPending, IsMeta, IsTree, IsDeleted, IsPlain}
use Rattle.core_state.specs.Inner.PageKinds.{IsHeadPage, IsChanged}
use Rattle.core_state.proofs.Showing.{none_yet, shown_one, shown_none, others_stay}
use Rattle.core_state.proofs.PageLists.{in_or_not, in_back}
use Rattle.core_state.proofs.RulesByKind.{kind_rule}
use Rattle.core_state.proofs.TouchedPages.{none_free, touched}
use Rattle.core_state.proofs.Moments.Facts.{placed_behind}
use Rattle.core_state.proofs.LawsHold.{pages, documents}
use Rattle.core_vacuum.specs.HeapPages.{HasSlots, HeapPagesHold}

-- a heap page is of no other kind
alone : (b : Body) → IsHeap b
    → IsPlain b ⊎ (IsOverflow b ⊎ (IsPending b ⊎ (IsMeta b ⊎ (IsTree b ⊎ IsDeleted b)))) → ⊥
alone (body.Heap slots) is (inl w) = w
alone (body.Heap slots) is (inr (inl w)) = w
alone (body.Heap slots) is (inr (inr (inl w))) = w
alone (body.Heap slots) is (inr (inr (inr (inl w)))) = w
alone (body.Heap slots) is (inr (inr (inr (inr (inl w))))) = w
alone (body.Heap slots) is (inr (inr (inr (inr (inr w))))) = w
alone _ is w = absurd is

slots_of : (b : Body) → IsHeap b → HasSlots b
slots_of (body.Heap slots) is = (slots, refl)
slots_of _ is = absurd is

-- what becomes a heap page was one, or heads change on it
heads_change : (P Q : Pages) (r : Record) (since p : ℕ) → IsHeap (Q p).body → IsChanged P Q r since p
    → IsHeap (P p).body ⊎ IsHeadPage r.kind p
heads_change P Q r since p is (IsChanged.made k f after) = absurd (alone (Q p).body is (inl after))
heads_change P Q r since p is (IsChanged.heads was after on) = inr on
heads_change P Q r since p is (IsChanged.chained new (inl after)) = absurd (alone (Q p).body is (inr (inl after)))
heads_change P Q r since p is (IsChanged.chained new (inr after)) =
    absurd (alone (Q p).body is (inr (inr (inl after.0))))
heads_change P Q r since p is (IsChanged.grown new works after) =
    absurd (alone (Q p).body is (inr (inr (inr (inr (inl after))))))
heads_change P Q r since p is (IsChanged.worked was works (inl after)) =
    absurd (alone (Q p).body is (inr (inr (inr (inr (inl after))))))
heads_change P Q r since p is (IsChanged.worked was works (inr after)) =
    absurd (alone (Q p).body is (inr (inr (inr (inr (inr after))))))
heads_change P Q r since p is (IsChanged.meta was lists after) =
    absurd (alone (Q p).body is (inr (inr (inr (inl after)))))
heads_change P Q r since p is (IsChanged.listed was on lists (inl after)) =
    absurd (alone (Q p).body is (inr (inr (inl after))))
heads_change P Q r since p is (IsChanged.listed was on lists (inr after)) =
    absurd (alone (Q p).body is (inr (inr (inr (inr (inr after.0))))))
heads_change P Q r since p is (IsChanged.dropped first after) =
    absurd (alone (Q p).body is (inr (inr (inr (inr (inr after))))))

-- the first page of a list
first_page : (P : Pages) (ps : List ℕ) (a : ℕ) (qs : List ℕ) (x : Page) (ys : List Page) → ps ≡ a ∷ qs
    → map P ps ≡ x ∷ ys → P a ≡ x
first_page P ps a qs x ys e f = let g : P a ∷ map P qs ≡ x ∷ ys = sym (ap (map P) e) ∙ f in cc

was_heap : (P : Pages) (ps : List ℕ) (a : ℕ) (qs : List ℕ) (x : Page) (ys : List Page) (slots : List (Option Head))
    → ps ≡ a ∷ qs → map P ps ≡ x ∷ ys → x.body ≡ body.Heap slots → IsHeap (P a).body
was_heap P ps a qs x ys slots e f b =
    subst IsHeap (sym (ap (λ (c : Page). c.body) (first_page P ps a qs x ys e f) ∙ b)) tt

same_put : (i s j t : ℕ) → kind.PutOverflow i s ≡ kind.PutOverflow j t → i ≡ j
same_put i s j t e = cc

same_marked : (i s j t : ℕ) → kind.MarkDeleted i s ≡ kind.MarkDeleted j t → i ≡ j
same_marked i s j t e = cc

same_pending : (i s j t : ℕ) → kind.PutPending i s ≡ kind.PutPending j t → i ≡ j
same_pending i s j t e = cc

same_linked : (i s j t : ℕ) → kind.LinkPending i s ≡ kind.LinkPending j t → i ≡ j
same_linked i s j t e = cc

same_dropped : (i s j t : ℕ) → kind.DropPage i s ≡ kind.DropPage j t → i ≡ j
same_dropped i s j t e = cc

-- the record places a head on the page
record PlacesOn (r : Record) (p : ℕ) : Type 0 where
  item : ℕ
  serial : ℕ
  kind_is : r.kind ≡ kind.PlaceHead item serial
  page : p ≡ page_of item

-- where heads change the page was one, or one is placed on it
module _ (R : Log) (P Q : Pages) (r : Record) (floor since p : ℕ) (x : RuleHolds R P Q r floor since)
    (on : In p (changed r)) where
  at : (a i : ℕ) → p ≡ page_of i → a ≡ i → IsHeap (P (page_of a)).body → IsHeap (P p).body
  at a i e same is = subst (λ (q : ℕ). IsHeap (P q).body) (ap page_of same ∙ sym e) is

  by_kind : (k : Kind) → r.kind ≡ k → IsHeadPage k p → IsHeap (P p).body ⊎ PlacesOn r p
  by_kind (kind.PlaceHead i s) is e = inr (record { item = i; serial = s; kind_is = is; page = e })
  by_kind (kind.PutOverflow i s) is e =
      let h = (kind_rule R P Q r floor since (kind.PutOverflow i s) is x).here in
      inl (at h.doc.item i e (same_put _ _ _ _ (sym h.kind_is ∙ is))
      (was_heap P (changed r) (page_of h.doc.item) _ h.old _ h.head_after.slots h.pages h.before_is
      h.head_after.before))
  by_kind (kind.MarkDeleted i s) is e =
      let h = (kind_rule R P Q r floor since (kind.MarkDeleted i s) is x).here in
      inl (at h.doc.item i e (same_marked _ _ _ _ (sym h.kind_is ∙ is))
      (was_heap P (changed r) (page_of h.doc.item) _ h.old _ h.head_after.slots h.pages h.before_is
      h.head_after.before))
  by_kind (kind.PutPending i s) is e =
      let h = (kind_rule R P Q r floor since (kind.PutPending i s) is x).here in
      inl (at h.doc.item i e (same_pending _ _ _ _ (sym h.kind_is ∙ is))
      (was_heap P (changed r) (page_of h.doc.item) _ h.old _ h.head_after.slots h.pages h.before_is
      h.head_after.before))
  by_kind (kind.LinkPending i s) is e =
      let h = (kind_rule R P Q r floor since (kind.LinkPending i s) is x).here in
      inl (at h.doc.item i e (same_linked _ _ _ _ (sym h.kind_is ∙ is))
      (was_heap P (changed r) (page_of h.doc.item) _ h.old _ h.head_after.slots h.pages h.before_is
      h.head_after.before))
  by_kind (kind.DropPage i s) is e =
      let h = (kind_rule R P Q r floor since (kind.DropPage i s) is x).here in
      inl (at h.doc.item i e (same_dropped _ _ _ _ (sym h.kind_is ∙ is))
      (was_heap P (changed r) (page_of h.doc.item) _ h.old _ h.head_after.slots h.pages h.before_is
      h.head_after.before))
  by_kind kind.FreeSlots is e =
      let h = (kind_rule R P Q r floor since kind.FreeSlots is x).here in
      let one : p ≡ h.page = elim (subst (In p) h.pages on) [ inl e ↦ e | inr none ↦ absurd none ] in
      inl (subst (λ (q : ℕ). IsHeap (P q).body) (sym one)
      (was_heap P (changed r) h.page _ h.old _ h.slots h.pages h.before_is h.was))
  by_kind _ is e = absurd e

-- the document that a record places is placed
placed_now : (k : Kind) (i s x : ℕ) (ds : List Doc) → k ≡ kind.PlaceHead i s → In (doc_at i s) (placed_with k x x ds)
placed_now k i s x ds e =
    subst (λ (j : Kind). In (doc_at i s) (placed_with j x x ds)) (sym e)
    (subst (In (doc_at i s)) (sym (same x (ds ++ doc_at i s ∷ []) ds))
    (in_back (doc_at i s) ds (doc_at i s ∷ []) (inl refl)))
  where
    same : (x : ℕ) (a b : List Doc) → cond (x == x) a b ≡ a
    same x a b = grind arith

heap_placed : (R : Log) (P : Pages) → RecordsAreValid R → Shows R P → (p : ℕ) → IsHeap (P p).body → IsHeapPage R p
heap_placed [] P v shown p is =
    absurd (subst (λ (S : Pages). IsHeap (S p).body) (shown_one [] P none_yet shown shown_none) is)
heap_placed (r ∷ R) P v shown p is =
    let u = v.1 in
    let now : IsHeap (u.after p).body =
    subst (λ (S : Pages). IsHeap (S p).body) (shown_one (r ∷ R) P u.after shown u.shown_after) is in
    let old : IsHeap (u.before p).body → IsHeapPage (r ∷ R) p = λ was.
    let h = heap_placed R u.before v.0 u.shown p was in
    record { xid = h.xid; doc = h.doc; placed_it = placed_behind (r ∷ []) R h.xid h.doc h.placed_it; on = h.on } in
    elim (in_or_not p (changed r)) [
      | inr off ↦ old (subst (λ (q : Page). IsHeap q.body)
          (others_stay R r u.before u.after u.shown u.shown_after p off) now)
      | inl on ↦ elim (heads_change u.before u.after r (suc (length R)) p now (touched R u.before u.after r (commits R)
          (suc (length R)) (none_free R u.before u.shown) u.rule p on).change) [
            | inl was ↦ old was
            | inr head ↦
                elim (by_kind R u.before u.after r (commits R) (suc (length R)) p u.rule on r.kind refl head) [
                  | inl was ↦ old was
                  | inr new ↦ record {
                    xid = r.xid;
                    doc = doc_at new.item new.serial;
                    placed_it = placed_now r.kind new.item new.serial r.xid (placed R r.xid) new.kind_is;
                    on = sym new.page;
                  }
                ]
          ]
    ]

pub heap_pages_hold : HeapPagesHold
heap_pages_hold R P legal shown = record {
  placed = λ p. (
    λ h. subst (λ (q : ℕ). HasSlots (P q).body) h.on ((pages R P legal shown).kinds.heaps h.xid h.doc h.placed_it),
    λ s. heap_placed R P legal.valid shown p (subst IsHeap (sym s.1) tt),
  );
  has = λ d h has. record {
    xid = h.inserted_by;
    doc = doc_at d.item h.serial;
    placed_it = (documents R P legal shown).inserted d.item h has.at;
    on = refl;
  };
}
