-- The trees and the pending list over the moments past a pin: what the walks need of them.
use Rattle.std.proofs.Common.{◌≡◌, ◌≢◌, ◌<◌, ◌≤◌, ◌+◌, ◌-◌, ℕ, List, [], ◌∷◌, ◌++◌, length, refl, sym, ap, subst, ◌∙◌}
use Rattle.std.proofs.Common.{inl, inr, arith}
use Rattle.std.proofs.lemmas.List.{length-drop}
use Rattle.page_types.specs.Views.{rows_of, kept_rows_of, first_of}
use Rattle.page_types.specs.declared.page.Page.{Page}
use Rattle.page_types.specs.declared.page.Row.{Row}
use Rattle.page_types.specs.declared.page.Gone.TheVariants as gone
use Rattle.core_state.specs.Log.{Log, Pages, In, cut}
use Rattle.core_state.specs.Documents.{IsChain}
use Rattle.core_state.specs.Legal.{RecordsAreValid, Pin, KeepsEach}
use Rattle.core_state.specs.Inner.Ghosts.{Ghost, entry_place, post_place, entry_ghost, post_ghost}
use Rattle.core_state.specs.Inner.Ghosts.Place.{meta, shifted}
use Rattle.core_state.specs.Inner.Kinds.{Fits}
use Rattle.core_state.specs.Inner.Effects.{NewRow}
use Rattle.core_state.specs.Inner.LineSteps.{AreNew, LineStep}
use Rattle.core_state.proofs.SteadyPages.{deleted_stay}
use Rattle.core_state.proofs.PageLists.{in_front, in_back}
use Rattle.core_state.proofs.Trees.PendWalk as pend
use Rattle.core_state.proofs.Trees.PendWalk.{PendStep}
use Rattle.core_state.proofs.Law.Invariant.{Inv}
use Rattle.core_state.proofs.Moments.Told.{Trees, Pends}
use Rattle.core_state.proofs.Moments.Here.{live_rows}
use Rattle.core_state.proofs.Moments.Timeline.{Timeline}

pub cut_length : (R : Log) (t : ℕ) → t ≤ length R → length (cut t R) ≡ t
cut_length R t l = length-drop (length R - t) R ∙ omega (arith, l)

pub cut_some : (R : Log) (t : ℕ) → 1 ≤ t → t ≤ length R → cut t R ≢ []
cut_some R t a b e = let n = cut_length R t b in let z : 0 ≡ t = sym (ap length e) ∙ n in omega (arith, a, z)

-- the two words for a chain of pages are one
pub as_chain : (P : Pages) (p : ℕ) (qs : List ℕ) → IsChain P p qs → pend.IsChain (λ q. (P q).right) p qs
as_chain P p [] c = c
as_chain P p (q ∷ qs) c = (c.0, c.1, as_chain P (P q).right qs c.2)

module _ (pin : Pin) (R : Log) (P : ℕ → Pages) (g : ℕ → Ghost) (start : ℕ) (T : Timeline pin start R P g)
    (some : 1 ≤ start) (within : start ≤ length R) where
  pub page_0 : (t : ℕ) → start ≤ t → t ≤ length R → (g t).place 0 ≡ meta
  page_0 t a b = (T.inv t a b).starts.page_0 (cut_some R t (omega (arith, some, a)) b)

  pub first : Inv pin.commits pin.length (cut start R) (P start) (g start)
  first = T.inv start (omega arith) within

  abbrev pub trees : Trees P start (length R)
  trees =
      let root = first.starts.page_1 (cut_some R start some within) in
      record {
        g = λ t. entry_ghost (g t);
        gp = λ t. post_ghost (g t);
        entries = record {
          first = first.entries;
          zero_page = ap entry_place (page_0 start (omega arith) within);
          steps = λ t a b. (T.case t a b).2.trees.entries.0;
        };
        posts = record {
          first = first.posts;
          zero_page = ap post_place (page_0 start (omega arith) within);
          steps = λ t a b. (T.case t a b).2.trees.posts.0;
        };
        height = root.0;
        root = ap entry_place root.1;
        root_low = first.entries_rooted.low 1 root.0 (ap entry_place root.1);
        roots = λ t p x r a b i e. let k = (T.inv t a b).named.is_root p r x i e in inl (k.0, ap post_place k.1);
      }

  module _ (v : RecordsAreValid R) (keeps : KeepsEach pin R) (V : ℕ → Type 0) (mine : (t : ℕ) → start ≤ t → t < length R
      → (j : ℕ) → V j → NewRow (cut t R) (P t) j → ⊥) where
    -- a row of a document that is being written is of another item
    others : (t : ℕ) → start ≤ t → t < length R → (rows : List Row) → AreNew (cut t R) (P t) rows → (w : Row)
        → In w rows → V w.item → ⊥
    others t a b rows new w on e = mine t a b w.item e (new w on)

    on_line : (t p : ℕ) → start ≤ t → t ≤ length R → In p (g t).line → kept_rows_of (P t p) ≡ rows_of (P t p)
    on_line t p a b j = live_rows pin.length ((g t).place p) (P t p) ((T.inv t a b).kinds p)
        (((T.inv t a b).lined.on p).0 j)

    abbrev pub Steps : ℕ → Type 0
    Steps t = PendStep (λ (row : Row). row.item) V (λ u p. kept_rows_of (P u p)) (λ u p. (P u p).right)
        (λ u. first_of (P u 0)) (λ u. (g u).line) (λ u p. (g u).place p ≡ shifted) t

    pub steps : (t : ℕ) → start ≤ t → t < length R → Steps t
    steps t a b = by (T.case t a b).2.line
      where
        later : t + 1 ≤ length R
        later = omega (arith, b)

        since : start ≤ t + 1
        since = omega (arith, a)

        now : t ≤ length R
        now = omega (arith, b)

        by : LineStep (cut t R) (P t) (P (t + 1)) (g t) (g (t + 1)) → Steps t
        by (LineStep.grow chain lines firsts new old) = PendStep.grow chain lines firsts
            (λ q j w on e. others t a b (rows_of (P (t + 1) q)) (new q j) w
            (subst (In w) (on_line (t + 1) q since later
            (subst (In q) (sym lines) (in_back q (g t).line chain j))) on) e)
            (λ q j.
            let k = old q j in (
              k.0,
              on_line (t + 1) q since later (subst (In q) (sym lines) (in_front q (g t).line chain j)) ∙ k.1
                  ∙ ap (λ z. z ++ k.0) (sym (on_line t q a now j)),
              others t a b k.0 k.2,
            ))
        by (LineStep.shift p lines firsts moved right rows in_main same) = PendStep.shift p lines firsts moved right
            (λ q j.
            let k : In q (p ∷ (g (t + 1)).line) = subst (In q) lines j in
            elim k [
              | inl e ↦
                  let at_p : kept_rows_of (P (t + 1) p) ≡ kept_rows_of (P t p) = rows
                  ∙ sym (on_line t p a now (subst (In p) (sym lines) (inl refl))) in
                  subst (λ z. kept_rows_of (P (t + 1) z) ≡ kept_rows_of (P t z)) (sym e) at_p
              | inr m ↦ on_line (t + 1) q since later m ∙ same q m ∙ sym (on_line t q a now j)
            ])

    -- a page that was shifted since the pin stays as it is
    pub unchanged : (t p : ℕ) → start ≤ t → t < length R → (g t).place p ≡ shifted → P (t + 1) p ≡ P t p
    unchanged t p a b e =
        let f : Fits pin.length shifted (P t p) = subst (λ z. Fits pin.length z (P t p)) e
        ((T.inv t a (omega (arith, b))).kinds p) in
        let c = T.case t a b in
        let log : (later : Log) × (R ≡ later ++ (c.0 ∷ cut t R)) =
        (let k = Rattle.core_state.proofs.Law.SnapshotsStay.behind_cut R (t + 1) in (k.0, k.1 ∙ ap (λ z. k.0 ++ z) c.1))
        in
        let valid =
        Rattle.core_state.proofs.SteadyPages.valid_behind log.0 (c.0 ∷ cut t R) (subst RecordsAreValid log.1 v) in
        let kept = Rattle.core_state.proofs.Law.SnapshotsStay.keeps_behind pin log.0 (c.0 ∷ cut t R)
        (subst (KeepsEach pin) log.1 keeps) in
        let shown = subst (λ z. Rattle.core_state.specs.Log.Shows z (P (t + 1))) c.1
        (T.shown (t + 1) (omega (arith, a)) (omega (arith, b))) in
        deleted_stay (c.0 ∷ cut t R) (P (t + 1)) pin valid kept shown p (gone.Pending f.0) (cut t R) (c.0 ∷ [])
        (P t) refl (T.shown t a (omega (arith, b))) f.1 f.2

  -- the pending list, for the documents with an item of which none is being written
  module _ (v : RecordsAreValid R) (keeps : KeepsEach pin R) (i : ℕ) (mine : (t : ℕ) → start ≤ t → t < length R
      → NewRow (cut t R) (P t) i → ⊥) where
    pub mine_of : (t : ℕ) → start ≤ t → t < length R → (j : ℕ) → j ≡ i → NewRow (cut t R) (P t) j → ⊥
    mine_of t a b j e new = mine t a b (subst (NewRow (cut t R) (P t)) e new)

    abbrev pub pends : Pends P start (length R) i
    pends = record {
      line = λ t. (g t).line;
      Gone = λ t p. (g t).place p ≡ shifted;
      chain = λ t a b. as_chain (P t) (first_of (P t 0)) (g t).line (T.inv t a b).lined.is_line;
      stays = λ t p a b e. (
        (T.case t a b).2.shifted_stays p e,
        ap kept_rows_of (unchanged v keeps (λ j. j ≡ i) mine_of t p a b e),
        ap (λ (z : Page). z.right) (unchanged v keeps (λ j. j ≡ i) mine_of t p a b e),
      );
      steps = steps v keeps (λ j. j ≡ i) mine_of;
    }
