-- A record that changes heap pages and one other page of a document alone: the trees, the pending list and what they
-- hold stay.
use Rattle.std.proofs.Common.{◌≡◌, ◌≢◌, ◌⊎◌, ◌<◌, ℕ, [], ◌∷◌, sym, ap, subst, ◌∙◌, inl, inr, append-nil}
use Rattle.page_types.specs.Views.{rows_of, first_of}
use Rattle.page_types.specs.declared.page.Page.{Page}
use Rattle.page_types.specs.declared.record.Record.{Record}
use Rattle.core_state.specs.Log.{Log, Pages, In}
use Rattle.core_state.specs.Documents.{IsChain}
use Rattle.core_state.specs.Trees.Nodes.{put}
use Rattle.core_state.specs.Inner.Ghosts.{Place, Ghost}
use Rattle.core_state.specs.Inner.Ghosts.Place.{unused, meta, heap, line, shifted, entry, private_of}
use Rattle.core_state.specs.Inner.Kinds.{Fits, PagesStart, IsLined, AreChained}
use Rattle.core_state.specs.Inner.LineSteps.{LineStep}
use Rattle.core_state.specs.Inner.PageKinds.{IsHeap}
use Rattle.core_state.proofs.PageLists.{same_or_not}
use Rattle.core_state.proofs.Chains.{chain_kept}
use Rattle.core_state.proofs.Trees.Order.{put_here, put_else}
use Rattle.core_state.proofs.Law.Invariant.{Inv}
use Rattle.core_state.proofs.Law.Steps.{Left, Case}
use Rattle.core_state.proofs.Law.OwnersStay.{PrivateNow, rows_stay, grouped_stays}
use Rattle.core_state.proofs.Law.LooseSteps.{Loose, PageNow, kinds_now, trees_now, named_now, main_now, items_now}
use Rattle.core_state.proofs.Law.DocumentPlaces.{IsDocPlace, doc_entry, doc_post, heap_place, heap_fits}

-- page a has this place
abbrev pub moved : Ghost → ℕ → Place → Ghost
moved g a x = record g { place = put g.place a x }

-- page a, of a document or free to be taken, gets another such place; of the other pages only heap pages change
pub record DocStep (L : ℕ) (P Q : Pages) (g : Ghost) (a : ℕ) (x : Place) : Type 0 where
  pub old : IsDocPlace (g.place a)
  pub new : IsDocPlace x
  pub used : x ≢ unused
  pub fits : Fits L x (Q a)
  pub lowest : g.place a ≡ unused → (q : ℕ) → q < a → g.place q ≢ unused
  pub others : (p : ℕ) → p ≢ a → (Q p ≡ P p) ⊎ (IsHeap (P p).body × IsHeap (Q p).body)

doc_loose : (x : Place) → IsDocPlace x → Loose x
doc_loose x d = record { entry = doc_entry x d; post = doc_post x d }

module _ (n L : ℕ) (R : Log) (P Q : Pages) (r : Record) (since a : ℕ) (g : Ghost) (x : Place) (v : Inv n L R P g)
    (l : Left n since R P Q r) (some : R ≢ []) (D : DocStep L P Q g a x) where
  -- a page in any other place stays, and so does its place
  not_a : (p : ℕ) → (IsDocPlace (g.place p) → ⊥) → p ≢ a
  not_a p off e = off (subst (λ (z : ℕ). IsDocPlace (g.place z)) (sym e) D.old)

  firm : (p : ℕ) → (IsDocPlace (g.place p) → ⊥) → Q p ≡ P p
  firm p off = elim (D.others p (not_a p off)) [
    | inl e ↦ e
    | inr h ↦ absurd (off (subst IsDocPlace (sym (heap_place L (g.place p) (P p) (v.kinds p) h.0)) tt))
  ]

  firm_at : (p : ℕ) (y : Place) → g.place p ≡ y → (IsDocPlace y → ⊥) → Q p ≡ P p
  firm_at p y e off = firm p (λ d. off (subst IsDocPlace e d))

  place_on : (p : ℕ) (y : Place) → g.place p ≡ y → (IsDocPlace y → ⊥) → (moved g a x).place p ≡ y
  place_on p y e off = put_else g.place a x p (not_a p (λ d. off (subst IsDocPlace e d))) ∙ e

  place_back : (p : ℕ) (y : Place) → (moved g a x).place p ≡ y → (IsDocPlace y → ⊥) → g.place p ≡ y
  place_back p y e off = elim (same_or_not a p) [
    | inl s ↦ absurd (off (subst IsDocPlace (sym (put_here g.place a x) ∙ ap (put g.place a x) (sym s) ∙ e) D.new))
    | inr s ↦ sym (put_else g.place a x p s) ∙ e
  ]

  page_now : (p : ℕ) → PageNow n since L R P Q r g v l (put g.place a x) g.line p
  page_now p = elim (same_or_not a p) [
    | inl s ↦ subst (PageNow n since L R P Q r g v l (put g.place a x) g.line) (sym s)
        (PageNow.loose (doc_loose (g.place a) D.old) (subst Loose (sym (put_here g.place a x)) (doc_loose x D.new))
        (subst (λ (y : Place). Fits L y (Q a)) (sym (put_here g.place a x)) D.fits))
    | inr s ↦ elim (D.others p s) [
      | inl e ↦ PageNow.same (put_else g.place a x p s) e
      | inr h ↦
          let at : g.place p ≡ heap = heap_place L (g.place p) (P p) (v.kinds p) h.0 in
          let now : put g.place a x p ≡ heap = put_else g.place a x p s ∙ at in
          PageNow.loose (subst Loose (sym at) (doc_loose heap tt)) (subst Loose (sym now) (doc_loose heap tt))
          (subst (λ (y : Place). Fits L y (Q p)) (sym now) (heap_fits L (Q p) h.1))
    ]
  ]

  lower : (p q : ℕ) → q < p → (moved g a x).place q ≡ unused → (moved g a x).place p ≡ unused
  lower p q lt e = elim (same_or_not a q) [
    | inl s ↦ absurd (D.used (sym (put_here g.place a x) ∙ ap (put g.place a x) (sym s) ∙ e))
    | inr s ↦
        let free : g.place q ≡ unused = sym (put_else g.place a x q s) ∙ e in
        let more : g.place p ≡ unused = v.starts.lower p q lt free in
        elim (same_or_not a p) [
          | inl t ↦ absurd (D.lowest (ap g.place (sym t) ∙ more) q (subst (λ (z : ℕ). q < z) t lt) free)
          | inr t ↦ put_else g.place a x p t ∙ more
        ]
  ]

  starts : PagesStart (r ∷ R) Q (moved g a x)
  starts = record {
    page_0 = λ e. place_on 0 meta (v.starts.page_0 some) (λ d. d);
    no_other = λ p e. v.starts.no_other p (place_back p meta e (λ d. d));
    page_1 = λ e. let one = v.starts.page_1 some in (one.0, place_on 1 (entry one.0) one.1 (λ d. d));
    lower = lower;
    stamps = l.stamps;
  }

  zero_same : Q 0 ≡ P 0
  zero_same = firm_at 0 meta (v.starts.page_0 some) (λ d. d)

  line_same : (q : ℕ) → In q g.line → Q q ≡ P q
  line_same q i = firm_at q line ((v.lined.on q).0 i) (λ d. d)

  lined : IsLined (r ∷ R) Q (moved g a x)
  lined = record {
    is_line = subst (λ (p : ℕ). IsChain Q p g.line) (ap first_of (sym zero_same)) (chain_kept P Q (first_of (P 0))
        g.line (λ q i. ap (λ (y : Page). y.right) (line_same q i)) v.lined.is_line);
    on = λ p. (
      λ i. place_on p line ((v.lined.on p).0 i) (λ d. d),
      λ e. (v.lined.on p).1 (place_back p line e (λ d. d)),
    );
    some_row = λ p e z.
        let f = place_back p line e (λ d. d) in
        v.lined.some_row p f (ap rows_of (sym (firm_at p line f (λ d. d))) ∙ z);
    counted = λ e. let c = v.lined.counted some in (c.0, ap (λ (y : Page). y.body) zero_same ∙ c.1);
  }

  same_line : LineStep R P Q g (moved g a x)
  same_line = LineStep.grow [] (sym (append-nil g.line)) (inl (ap first_of zero_same)) (λ q i. absurd i)
      (λ q i. ([], ap rows_of (line_same q i) ∙ sym (append-nil _), λ w j. absurd j))

  private_was : (q i : ℕ) → q ≢ a → (moved g a x).place q ≡ private_of i → PrivateNow n since L R P Q r g v l
      (moved g a x) q i
  private_was q i off e =
      let f : g.place q ≡ private_of i = sym (put_else g.place a x q off) ∙ e in
      elim (D.others q off) [
        | inl s ↦ PrivateNow.was f (ap rows_of s)
        | inr h ↦ let z : private_of i ≡ heap = sym f ∙ heap_place L (g.place q) (P q) (v.kinds q) h.0 in absurd (cc)
      ]

  -- the case of such a record
  pub doc_case : ((i : ℕ) → x ≡ private_of i → PrivateNow n since L R P Q r g v l (moved g a x) a i)
      → AreChained Q (moved g a x) → Case n L R P Q r g (moved g a x)
  doc_case privates chained = record {
    kinds = kinds_now n since L R P Q r g v l (put g.place a x) g.line page_now;
    starts = starts;
    lined = lined;
    trees = trees_now n since L R P Q r g v l (put g.place a x) g.line page_now;
    named = named_now n since L R P Q r g v l (put g.place a x) g.line page_now;
    chained = chained;
    rows_owned = rows_stay n since L R P Q r g v l (moved g a x)
        (λ q i e. elim (same_or_not a q) [
          | inl s ↦ subst (λ (z : ℕ). PrivateNow n since L R P Q r g v l (moved g a x) z i) (sym s)
              (privates i (sym (put_here g.place a x) ∙ ap (put g.place a x) (sym s) ∙ e))
          | inr s ↦ private_was q i s e
        ])
        (λ q w e on. let f = place_back q line e (λ d. d) in inl (
          q,
          f,
          subst (λ (y : Page). In w (rows_of y))
              (firm_at q line f (λ d. d)) on,
        ));
    items_owned = items_now n since L R P Q r g v l (put g.place a x) g.line page_now;
    grouped = grouped_stays n since L R P Q r g v l (λ q i. ap rows_of (line_same q i));
    main = main_now n since L R P Q r g v l (put g.place a x) g.line page_now;
    line = same_line;
    shifted_stays = λ p e. place_on p shifted e (λ d. d);
  }
