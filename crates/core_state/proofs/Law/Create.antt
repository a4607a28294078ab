-- The case of the first record, which makes the store.
use Rattle.std.proofs.Common.{◌≡◌, ◌≢◌, ◌⊎◌, ℕ, List, [], ◌∷◌, length, sym, ap, subst, ◌∙◌, inl, inr, arith, append-nil}
use Rattle.std.specs.Prelude.{Option, Some, None}
use Rattle.page_types.specs.Views.{free_page, entries_of, slots_of, slot_at, first_of}
use Rattle.page_types.specs.declared.page.Page.{Page}
use Rattle.page_types.specs.declared.page.Head.{Head}
use Rattle.page_types.specs.declared.page.Entry.{Entry}
use Rattle.page_types.specs.declared.page.Body.TheVariants as body
use Rattle.page_types.specs.declared.record.Record.{Record}
use Rattle.core_state.specs.Log.{Log, Pages, In, changed}
use Rattle.core_state.specs.Documents.{page_of, slot_of, head_of}
use Rattle.core_state.specs.Index.{Line}
use Rattle.core_state.specs.Changes.{made_with}
use Rattle.core_state.specs.TransactionRules.{IsCreate}
use Rattle.core_state.specs.Trees.Nodes.{put}
use Rattle.core_state.specs.Inner.Ghosts.{Place, Ghost}
use Rattle.core_state.specs.Inner.Ghosts.Place.{unused, meta, line, shifted, entry, post, overflow_of, private_of}
use Rattle.core_state.specs.Inner.GhostSteps.{created}
use Rattle.core_state.specs.Inner.Kinds.{Fits, PagesStart, IsLined, AreChained, last_of}
use Rattle.core_state.specs.Inner.Owners.{RowsOwned}
use Rattle.core_state.specs.Inner.Grouping.{RowsGrouped}
use Rattle.core_state.specs.Inner.LineSteps.{LineStep}
use Rattle.core_state.proofs.PageLists.{same_or_not, two_pages}
use Rattle.core_state.proofs.Chains.{none_chain}
use Rattle.core_state.proofs.Trees.Order.{put_here, put_else}
use Rattle.core_state.proofs.Law.MainPlaces.{MainAt}
use Rattle.core_state.proofs.Law.Steps.{Before, Left, Case, CaseOf, Departs}
use Rattle.core_state.proofs.Law.CreateTrees.{all_free, none_used, create_trees}

module _ (n L : ℕ) (R : Log) (P Q : Pages) (r : Record) (floor since : ℕ) (g : Ghost)
    (b : Before n L R P Q r floor since g) (l : Left n since R P Q r) (x : IsCreate R P Q r) where
  abbrev g' : Ghost
  g' = created g

  free : (p : ℕ) → P p ≡ free_page
  free p = all_free R P x.here.empty b.shown p

  used : (p : ℕ) → g.place p ≡ unused
  used p = none_used n L R P Q r floor since g b l x p

  is : (Q 0 ≡ made_with r 0 (body.Meta 0 0 0)) × (Q 1 ≡ made_with r 0 (body.EntryLeaf [] []))
  is = two_pages Q (changed r) 0 1 _ _ x.here.pages x.here.after_is

  others : (p : ℕ) → p ≢ 0 → p ≢ 1 → Q p ≡ free_page
  others p m k = l.elsewhere p
      (λ i. elim (subst (In p) x.here.pages i) [ inl e ↦ m e | inr (inl e) ↦ k e | inr (inr z) ↦ z ]) ∙ free p

  one_zero : ◌≢◌ {A = ℕ} 0 1
  one_zero e = omega (arith, e)

  at_0 : g'.place 0 ≡ meta
  at_0 = put_else (put g.place 0 meta) 1 (entry 0) 0 one_zero ∙ put_here g.place 0 meta

  at_1 : g'.place 1 ≡ entry 0
  at_1 = put_here (put g.place 0 meta) 1 (entry 0)

  elsewhere : (p : ℕ) → p ≢ 0 → p ≢ 1 → g'.place p ≡ unused
  elsewhere p m k = put_else (put g.place 0 meta) 1 (entry 0) p k ∙ put_else g.place 0 meta p m ∙ used p

  -- each page is page 0, page 1 or free
  data PageIs (p : ℕ) : Type 0 where
    first : p ≡ 0 → PageIs p
    second : p ≡ 1 → PageIs p
    none : g'.place p ≡ unused → Q p ≡ free_page → PageIs p

  page_is : (p : ℕ) → PageIs p
  page_is p = elim (same_or_not 0 p) [
    | inl e ↦ PageIs.first e
    | inr m ↦ elim (same_or_not 1 p) [
      | inl e ↦ PageIs.second e
      | inr k ↦ PageIs.none (elsewhere p m k)
          (others p m k)
    ]
  ]

  fits : (p : ℕ) → PageIs p → Fits L (g'.place p) (Q p)
  fits p (PageIs.first e) = subst (λ (z : ℕ). Fits L (g'.place z) (Q z)) (sym e)
      (subst (λ (y : Place). Fits L y (Q 0)) (sym at_0) (0, 0, 0, ap (λ (q : Page). q.body) is.0))
  fits p (PageIs.second e) = subst (λ (z : ℕ). Fits L (g'.place z) (Q z)) (sym e)
      (subst (λ (y : Place). Fits L y (Q 1)) (sym at_1) ([], [], ap (λ (q : Page). q.body) is.1))
  fits p (PageIs.none at s) = subst (λ (y : Place). Fits L y (Q p)) (sym at) s

  -- no page has another place
  not_at : (p : ℕ) (y : Place) → meta ≢ y → entry 0 ≢ y → unused ≢ y → g'.place p ≡ y → ⊥
  not_at p y a c d e = go (page_is p)
    where
      go : PageIs p → ⊥
      go (PageIs.first s) = a (sym at_0 ∙ ap g'.place (sym s) ∙ e)
      go (PageIs.second s) = c (sym at_1 ∙ ap g'.place (sym s) ∙ e)
      go (PageIs.none at s) = d (sym at ∙ e)

  entries_none : (p : ℕ) → PageIs p → entries_of (Q p) ≡ []
  entries_none p (PageIs.first e) = ap (λ (z : ℕ). entries_of (Q z)) e ∙ ap entries_of is.0
  entries_none p (PageIs.second e) = ap (λ (z : ℕ). entries_of (Q z)) e ∙ ap entries_of is.1
  entries_none p (PageIs.none at s) = ap entries_of s

  no_entry : (p : ℕ) (e : Entry) → In e (entries_of (Q p)) → ⊥
  no_entry p e i = subst (In e) (entries_none p (page_is p)) i

  slots_none : (p : ℕ) → PageIs p → slots_of (Q p) ≡ []
  slots_none p (PageIs.first e) = ap (λ (z : ℕ). slots_of (Q z)) e ∙ ap slots_of is.0
  slots_none p (PageIs.second e) = ap (λ (z : ℕ). slots_of (Q z)) e ∙ ap slots_of is.1
  slots_none p (PageIs.none at s) = ap slots_of s

  no_head : (i : ℕ) (h : Head) → head_of Q i ≡ Some h → ⊥
  no_head i h e = clash (sym
      (ap (λ (ss : List (Option Head)). slot_at ss (slot_of i)) (slots_none (page_of i) (page_is (page_of i)))) ∙ e)
    where
      clash : None ≡ Some h → ⊥
      clash z = cc

  starts : PagesStart (r ∷ R) Q g'
  starts = record {
    page_0 = λ k. at_0;
    no_other = λ p e. go p e (page_is p);
    page_1 = λ k. (0, at_1);
    lower = λ p q low e.
        let q0 : q ≢ 0 = λ s. unused_not_meta (sym e ∙ ap g'.place s ∙ at_0) in
        elsewhere p (λ s. omega (arith, low, s)) (λ s. omega (arith, low, s, q0));
    stamps = l.stamps;
  }
    where
      unused_not_meta : unused ≡ meta → ⊥
      unused_not_meta e = cc

      go : (p : ℕ) → g'.place p ≡ meta → PageIs p → p ≡ 0
      go p e (PageIs.first s) = s
      go p e (PageIs.second s) = let z : entry 0 ≡ meta = sym at_1 ∙ ap g'.place (sym s) ∙ e in absurd (cc)
      go p e (PageIs.none at s) = absurd (unused_not_meta (sym at ∙ e))

  no_line : g.line ≡ []
  no_line = none_chain P (first_of (P 0)) g.line (ap first_of (free 0)) b.inv.lined.is_line

  lined : IsLined (r ∷ R) Q g'
  lined = record {
    is_line = subst (Line Q) (sym no_line) (ap first_of is.0);
    on = λ p. (λ i. absurd (subst (In p) no_line i), λ e. absurd (not_at p line (λ z. cc) (λ z. cc) (λ z. cc) e));
    some_row = λ p e. absurd (not_at p line (λ z. cc) (λ z. cc) (λ z. cc) e);
    counted = λ k. (
      0,
      ap (λ (q : Page). q.body) is.0 ∙ ap (λ (qs : List ℕ). body.Meta 0 (last_of qs) (length qs))
          (sym no_line),
    );
  }

  chained : AreChained Q g'
  chained = record {
    overflow = record {
      some = λ i h e. absurd (no_head i h e);
      none = λ i q e at. not_at q (overflow_of i) (λ z. cc)
          (λ z. cc) (λ z. cc) at;
    };
    private = record {
      some = λ i h e. absurd (no_head i h e);
      none = λ i q e at. not_at q (private_of i) (λ z. cc)
          (λ z. cc) (λ z. cc) at;
    };
  }

  rows_owned : RowsOwned n (r ∷ R) Q g'
  rows_owned = record {
    on_line = λ q w e i. absurd (not_at q line (λ z. cc) (λ z. cc) (λ z. cc) e);
    private_row = λ q i e. absurd (not_at q (private_of i) (λ z. cc) (λ z. cc) (λ z. cc) e);
    private_item = λ q i w e m. absurd (not_at q (private_of i) (λ z. cc) (λ z. cc) (λ z. cc) e);
    on_private = λ q i w h e m f. absurd (not_at q (private_of i) (λ z. cc) (λ z. cc) (λ z. cc) e);
  }

  main : (k : _) (i : ℕ) → MainAt P g k i → MainAt Q g' k i ⊎ Departs n R P r i
  main k i (MainAt.listed q e bytes on key of there) = absurd (subst (In e) (ap entries_of (free q)) on)
  main k i (MainAt.posted q s at key there) = let z : unused ≡ post s 0 = sym (used q) ∙ at in absurd (cc)

  the_case : Case n L R P Q r g g'
  the_case = record {
    kinds = λ p. fits p (page_is p);
    starts = starts;
    lined = lined;
    trees = create_trees n L R P Q r floor since g b l x;
    named = record {
      is_root = λ q s e i of. absurd (no_entry q e i);
      key = λ q s e i of. absurd (no_entry q e i);
      named = λ s h e. absurd (not_at s (post s h) (λ z. cc) (λ z. cc) (λ z. cc) e);
    };
    chained = chained;
    rows_owned = rows_owned;
    items_owned = record {
      inline = λ q i e bytes j of m. absurd (no_entry q e j);
      posted = λ q s i e m. absurd (not_at q (post s 0) (λ z. cc) (λ z. cc) (λ z. cc) e);
    };
    grouped = subst (RowsGrouped Q) (sym no_line) (record { grouped = tt; complete = λ i m. absurd m });
    main = main;
    line = LineStep.grow [] (sym (append-nil g.line)) (inr no_line) (λ q i. absurd i)
        (λ q i. absurd (subst (In q) no_line i));
    shifted_stays = λ p e. let z : unused ≡ shifted = sym (used p) ∙ e in absurd (cc);
  }

pub create_case : CaseOf (λ R P Q r floor since. IsCreate R P Q r)
create_case n L R P Q r floor since g b l x = (created g, the_case n L R P Q r floor since g b l x)
