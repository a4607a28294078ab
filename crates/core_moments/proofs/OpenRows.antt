-- A walk along the pending list that is open at its end: the pages that were read stay pages of the list or are deleted
-- with their rows, whose items' pages are heap pages; so the reads are few.
use Rattle.std.proofs.Common.{◌≡◌, ◌≢◌, ◌<◌, ◌≤◌, ◌+◌, ℕ, List, [], ◌∷◌, ◌++◌, map, length, refl, sym, ap, subst}
use Rattle.std.proofs.Common.{◌∙◌, inl, inr, arith, append_assoc}
use Rattle.page_types.specs.Views.{first_of, kept_rows_of, free_page}
use Rattle.page_types.specs.declared.page.Page.{Page}
use Rattle.page_types.specs.declared.page.Row.{Row}
use Rattle.core_state.specs.Documents.{page_of}
use Rattle.core_state.specs.Legal.{IsLegal, Pin, Keeps}
use Rattle.core_state.specs.Log.{Log, Pages, In, Shows, cut}
use Rattle.core_state.specs.Readings.{Read, AreReads}
use Rattle.core_state.specs.Inner.Ghosts.{Ghost}
use Rattle.core_state.specs.Inner.Ghosts.Place.{shifted}
use Rattle.core_state.proofs.Moments.Here.{live_rows}
use Rattle.core_state.proofs.Moments.Phases as phases
use Rattle.core_state.proofs.Moments.Timeline.{Timeline, from_later, cut_all}
use Rattle.core_state.proofs.Showing.{shown_one}
use Rattle.core_state.proofs.Trees.PendWalk as pend
use Rattle.core_state.proofs.Trees.PendWalk.{PendStep}
use Rattle.core_state.proofs.Trees.Walk.{Rising}
use Rattle.core_moments.specs.OpenWalk.{LeadOn, last_length}
use Rattle.core_moments.specs.OpenLaws.{IsRowPage, IsHeapPage, AreAllBelow, OpenList, ListsAreOpen}
use Rattle.core_moments.specs.Walk.{rightward}
use Rattle.core_moments.proofs.HeapPages.{has_heap, heap_then}
use Rattle.core_moments.proofs.Moments.{reads_at}
use Rattle.core_moments.proofs.Once.{rise}
use Rattle.core_moments.proofs.OpenLists.{as_moments, first_reads, last_same, lead_front, read_behind, not_free}
use Rattle.core_moments.proofs.OpenLists.{list_once, next_new, next_is, list_fewer}
use Rattle.core_moments.proofs.ReadLists.{last_reads, read_between}
use Rattle.core_moments.proofs.TreeMoments as moments
use Rattle.core_moments.proofs.TreeMoments.{none_or_some}
use Rattle.core_moments.proofs.Views.{tr}
use Rattle.core_moments.proofs.Walks.{Reads}

-- ── the rows of the list ──

-- E are the pages of the log
module _ (R : Log) (pin : Pin) (legal : IsLegal R) (keeps : Keeps R pin) (E : Pages) (shown : Shows R E) where
  abbrev P : ℕ → Pages
  P = moments.P R pin legal keeps

  abbrev g : ℕ → Ghost
  g = moments.g R pin legal keeps

  abbrev T : Timeline pin pin.length R P g
  T = moments.T R pin legal keeps

  -- the pages of its rows' items are heap pages
  abbrev RowsLie : Page → Type 0
  RowsLie c = (w : Row) → In w (kept_rows_of c) → IsHeapPage (E (page_of w.item))

  line_lies : (t p : ℕ) → pin.length ≤ t → t ≤ length R → In p (g t).line → RowsLie (P t p)
  line_lies t p a b on w i =
      let v = T.inv t a b in
      let here = (v.lined.on p).0 on in
      let o = v.rows_owned.on_line p w here
      (subst (In w) (live_rows pin.length ((g t).place p) (P t p) (v.kinds p) here) i) in
      heap_then R t (page_of w.item) (P t) E legal (T.shown t a b) shown
      (has_heap (P t) o.doc o.head w.item o.has o.item)

  -- deleted since the pin, with such rows
  abbrev Gone : ℕ → ℕ → Type 0
  Gone t p = ((g t).place p ≡ shifted) × RowsLie (P t p)

  module _ (from : ℕ) (low : pin.length ≤ from) (within : from ≤ length R) (some : 1 ≤ from) where
    S : Timeline pin from R P g
    S = from_later pin pin.length from R P g low T

    same_page : (t p : ℕ) → from ≤ t → t < length R → (g t).place p ≡ shifted → P (t + 1) p ≡ P t p
    same_page t p a b e =
        phases.unchanged pin R P g from S some within legal.valid keeps.each (λ j. ⊥) (λ u c h j f n. f) t p a b e

    abbrev Step : (ℕ → ℕ → Type 0) → ℕ → Type 0
    Step Left t = PendStep (λ (row : Row). row.item) (λ (j : ℕ). ⊥) (λ u p. kept_rows_of (P u p))
        (λ u p. (P u p).right) (λ u. first_of (P u 0)) (λ u. (g u).line) Left t

    step : (t : ℕ) → from ≤ t → t < length R → Step Gone t
    step t a b = by (phases.steps pin R P g from S some within legal.valid keeps.each (λ j. ⊥) (λ u c h j f n. f) t a b)
      where
        by : Step (λ u p. (g u).place p ≡ shifted) t → Step Gone t
        by (PendStep.grow chain e f new old) = PendStep.grow chain e f new old
        by (PendStep.shift p e f gone right rows) =
            let on : In p (g t).line = subst (In p) (sym e) (inl refl) in
            PendStep.shift p e f
            (gone, λ w i. line_lies t p (omega (arith, low, a)) (omega (arith, b)) on w (subst (In w) (rows p on) i))
            right rows

    stays : (t p : ℕ) → from ≤ t → t < length R → Gone t p
        → Gone (t + 1) p × (kept_rows_of (P (t + 1) p) ≡ kept_rows_of (P t p)) × ((P (t + 1) p).right ≡ (P t p).right)
    stays t p a b o =
        let same = same_page t p a b o.0 in (
          ((S.case t a b).2.shifted_stays p o.0, subst RowsLie (sym same) o.1),
          ap kept_rows_of same,
          ap (λ (z : Page). z.right) same,
        )

    rows_ahead : (xs : List Read) (q : ℕ) → Rising from (length R) (map tr xs)
        → pend.Leads (λ t p. (P t p).right) (first_of (P from 0)) (map tr xs) q → q ≢ 0 → (t : ℕ)
        → last_length from xs ≤ t → t ≤ length R → RowsLie (P t q)
    rows_ahead xs q rises leads off t a b =
        let ahead = pend.reads_open (λ (row : Row). row.item) (λ (j : ℕ). ⊥) (λ u p. kept_rows_of (P u p))
        (λ u p. (P u p).right) (λ u. first_of (P u 0)) (λ u. (g u).line) Gone from (length R)
        (λ u c d. phases.as_chain (P u) (first_of (P u 0)) (g u).line (S.inv u c d).lined.is_line) stays step
        (map tr xs) q within rises leads in
        let between = pend.last_between from (length R) (map tr xs) rises in
        let late : pend.last_time from (map tr xs) ≤ t = omega (arith, last_same from xs, a) in
        elim (ahead.stays_on off t late b) [
          | inl o ↦ o.1
          | inr on ↦ line_lies t q (omega (arith, low, between.0, late)) b on
        ]

  -- from the metapage on
  module _ (meta : Read) (meta_page : meta.page ≡ 0) where
    no_list : (xs : List Read) (q : ℕ) → meta.content ≡ free_page → LeadOn rightward (first_of meta.content) xs q
        → q ≡ 0
    no_list [] q e d = sym d ∙ ap first_of e
    no_list (x ∷ xs) q e d = absurd (d.0 (ap first_of e))

    rows_next : (xs : List Read) (q : ℕ) → LeadOn rightward (first_of meta.content) xs q
        → AreReads R pin.length (meta ∷ xs) → q ≢ 0 → (t : ℕ) → last_length meta.length xs ≤ t → t ≤ length R
        → RowsLie (P t q)
    rows_next xs q leads reads off =
        let here : Reads P meta.length (length R) (meta ∷ xs) =
        reads_at R meta.length P (λ t a b. T.shown t (omega (arith, reads.0, a)) b) reads.1 (meta ∷ xs) meta.length
        (omega arith) reads.1 (omega arith, reads.1, reads.2, reads.3) in
        let is : P meta.length 0 ≡ meta.content =
        subst (λ (p : ℕ). P meta.length p ≡ meta.content) meta_page here.1 in
        elim (none_or_some meta.length) [
          | inl z ↦ absurd (off (no_list xs q
              (sym is ∙ moments.all_free R pin legal keeps meta.length 0 reads.0 reads.1 z) leads))
          | inr some ↦ rows_ahead meta.length reads.0 reads.1 some xs q (rise P (length R) meta.length xs here.2)
              (subst (λ (p : ℕ). pend.Leads (λ t z. (P t z).right) p (map tr xs) q) (ap first_of (sym is))
              (as_moments P (length R) meta.length (first_of meta.content) xs q here.2 leads)) off
        ]

    rows_behind : (front back : List Read) (q : ℕ) → LeadOn rightward (first_of meta.content) (front ++ back) q
        → AreReads R pin.length (meta ∷ (front ++ back)) → (x : Read) → In x back → RowsLie x.content
    rows_behind front [] q leads reads x i = absurd i
    rows_behind front (y ∷ ys) q leads reads x (inl e) =
        let f = lead_front rightward (first_of meta.content) front y ys q leads in
        let b = read_behind R pin.length (meta ∷ front) y ys reads in
        let first = first_reads R pin.length (meta ∷ front) (y ∷ ys) reads in
        let since = last_reads R pin.length (meta ∷ front) keeps.within first in
        let then = T.shown y.length (omega (arith, since.0, b.0)) b.1 in
        let same : P y.length y.page ≡ x.content =
        ap (λ (Q : Pages). Q y.page) (shown_one (cut y.length R) (P y.length) b.2.0 then b.2.1) ∙ b.2.2
        ∙ ap (λ (z : Read). z.content) (sym e) in
        subst RowsLie same (rows_next front y.page f.0 first f.1 y.length b.0 b.1)
    rows_behind front (y ∷ ys) q leads reads x (inr i) =
        let same = sym (append_assoc front (y ∷ []) ys) in
        rows_behind (front ++ y ∷ []) ys q
        (subst (λ (zs : List Read). LeadOn rightward (first_of meta.content) zs q) same leads)
        (subst (λ (zs : List Read). AreReads R pin.length (meta ∷ zs)) same reads) x i

-- ── its pages ──

module _ (R : Log) (pin : Pin) (meta : Read) (q : ℕ) (legal : IsLegal R) (keeps : Keeps R pin)
    (meta_page : meta.page ≡ 0) where
  stays_behind : (front back : List Read) → LeadOn rightward (first_of meta.content) (front ++ back) q
      → AreReads R pin.length (meta ∷ (front ++ back)) → (x : Read) → In x back → (t : ℕ) (Q : Pages) → x.length ≤ t
      → t ≤ length R → Shows (cut t R) Q → IsRowPage (Q x.page)
  stays_behind front [] leads reads x i t Q a b shown = absurd i
  stays_behind front (y ∷ ys) leads reads x (inl e) t Q a b shown =
      let f = lead_front rightward (first_of meta.content) front y ys q leads in
      let late = (read_behind R pin.length (meta ∷ front) y ys reads).0 in
      let same : x.length ≡ y.length = ap (λ (z : Read). z.length) e in
      subst (λ (p : ℕ). IsRowPage (Q p)) (ap (λ (z : Read). z.page) (sym e))
      (next_is R pin meta front y.page legal keeps meta_page f.0
      (first_reads R pin.length (meta ∷ front) (y ∷ ys) reads) f.1 t Q (omega (arith, late, same, a)) b shown)
  stays_behind front (y ∷ ys) leads reads x (inr i) t Q a b shown =
      let same = sym (append_assoc front (y ∷ []) ys) in
      stays_behind (front ++ y ∷ []) ys
      (subst (λ (zs : List Read). LeadOn rightward (first_of meta.content) zs q) same leads)
      (subst (λ (zs : List Read). AreReads R pin.length (meta ∷ zs)) same reads) x i t Q a b shown

  module _ (pending : List Read) (leads : LeadOn rightward (first_of meta.content) pending q)
      (reads : AreReads R pin.length (meta ∷ pending)) where
    few : q ≢ 0 → (Q : Pages) (n : ℕ) → Shows R Q → AreAllBelow Q n → length pending < n
    few off Q n is below =
        let now : Shows (cut (length R) R) Q = subst (λ (S : Log). Shows S Q) (sym (cut_all R (length R) refl)) is in
        let last = last_reads R meta.length pending reads.1 reads.3 in
        let next = below q (not_free (Q q)
        (next_is R pin meta pending q legal keeps meta_page leads reads off (length R) Q last.1 (omega arith) now)) in
        list_fewer R pin meta pending q legal keeps meta_page leads reads n (omega (arith, next))
        (λ x i. below x.page (not_free (Q x.page) (stays_behind [] pending leads reads x i (length R) Q
        (read_between R meta.length pending reads.3 x i).1 (omega arith) now)))

    open_list : OpenList R meta pending q
    open_list = record {
      once = list_once R pin meta pending q legal keeps meta_page leads reads;
      next_new = next_new R pin meta pending q legal keeps meta_page leads reads;
      next_is = next_is R pin meta pending q legal keeps meta_page leads reads;
      stay = stays_behind [] pending leads reads;
      fewer = few;
      rows = λ x i w j Q shown. rows_behind R pin legal keeps Q shown meta meta_page [] pending q leads reads x i w j;
    }

pub lists_open : ListsAreOpen
lists_open R pin meta pending q legal keeps meta_page leads reads =
    open_list R pin meta q legal keeps meta_page pending leads reads
