-- The pending list of a legal log, by the invariant.
use Rattle.std.proofs.Common.{◌≡◌, ◌≢◌, ◌⊎◌, ◌++◌, ℕ, List, [], ◌∷◌, refl, sym, ap, subst, ◌∙◌, inl, inr}
use Rattle.page_types.specs.Views.{rows_of}
use Rattle.page_types.specs.declared.page.Row.{Row}
use Rattle.page_types.specs.declared.page.Body.{Body}
use Rattle.page_types.specs.declared.page.Body.TheVariants as body
use Rattle.core_state.specs.Log.{Log, Pages, In}
use Rattle.core_state.specs.Index.{HasRow, rows_on}
use Rattle.core_state.specs.PagesTold.{IsLastOf, HasRowOn, StartsWith, IsAllPending, ListStands}
use Rattle.core_state.specs.Inner.Ghosts.{Place, Ghost}
use Rattle.core_state.specs.Inner.Ghosts.Place.{line}
use Rattle.core_state.specs.Inner.Kinds.{Fits, last_of}
use Rattle.core_state.specs.Inner.Grouping.{rows_by_page, OnPage, InLine, StartsPage, IsFirst, Grouped, AllKeysIn}
use Rattle.core_state.proofs.Law.Invariant.{Inv}
use Rattle.core_state.proofs.Law.LineEffects.{on_line, linked}
use Rattle.core_state.proofs.Law.RowsIndexed.{AreRowsIndexed, on_some, in_line, key_on}

last_front : (q : ℕ) (qs : List ℕ) → (front : List ℕ) × (q ∷ qs ≡ front ++ last_of (q ∷ qs) ∷ [])
last_front q [] = ([], refl)
last_front q (p ∷ qs) = let r = last_front p qs in (q ∷ r.0, ap (λ (l : List ℕ). q ∷ l) r.1)

last_is : (qs : List ℕ) → IsLastOf qs (last_of qs)
last_is [] = IsLastOf.none
last_is (q ∷ qs) = let r = last_front q qs in
    subst (λ (l : List ℕ). IsLastOf l (last_of (q ∷ qs))) (sym r.1) (IsLastOf.some r.0 (last_of (q ∷ qs)))

row_there : (b : Body) (rows : List Row) → b ≡ body.Pending rows → rows ≢ []
    → (w : Row) × (rest : List Row) × (b ≡ body.Pending (w ∷ rest))
row_there b [] e off = absurd (off refl)
row_there b (w ∷ rest) e off = (w, rest, e)

starts_on : (P : Pages) (q : ℕ) (qs : List ℕ) (i : ℕ) (ws : List Row) → rows_of (P q) ≡ ws → StartsPage i ws
    → StartsWith P (q ∷ qs) i
starts_on P q qs i [] e s = absurd s
starts_on P q qs i (w ∷ ws) e s = (w, ws ++ rows_on P qs, ap (λ (l : List Row). l ++ rows_on P qs) e, s)

first_starts : (P : Pages) (qs : List ℕ) (i : ℕ) → IsFirst i (rows_by_page P qs) → StartsWith P qs i
first_starts P [] i f = absurd f
first_starts P (q ∷ qs) i f = starts_on P q qs i (rows_of (P q)) refl f

grouped_at : (P : Pages) (front back : List ℕ) (p : ℕ) → Grouped (rows_by_page P (front ++ p ∷ back)) → (i : ℕ)
    → OnPage i (rows_of (P p)) → InLine i (rows_by_page P back) → IsFirst i (rows_by_page P back)
grouped_at P [] back p g = g.1
grouped_at P (q ∷ front) back p g = grouped_at P front back p g.0

module _ (n L : ℕ) (R : Log) (P : Pages) (g : Ghost) (v : Inv n L R P g) where
  row_on : (qs : List ℕ) (i : ℕ) → HasRowOn P qs i → InLine i (rows_by_page P qs)
  row_on qs i k =
      let o = on_some P qs k.0 k.1 in
      subst (λ (z : ℕ). InLine z (rows_by_page P qs)) k.2 (in_line P qs o.0 k.0 o.1 o.2)

  all_pending : (i : ℕ) → AllKeysIn P i (rows_by_page P g.line) → IsAllPending P i
  all_pending i a = (
    a.doc,
    a.vector,
    a.item,
    a.whole,
    λ key m.
        let w = key_on P g.line key i (a.keys key m) in
        record { row = w.1; linked = linked R P g w.1 w.0 v.lined w.2 w.3; item = w.4; key = w.5 },
  )

  together : (front back : List ℕ) (p i : ℕ) → g.line ≡ front ++ p ∷ back → HasRowOn P (p ∷ []) i → HasRowOn P back i
      → StartsWith P back i
  together front back p i e here there =
      let o = on_some P (p ∷ []) here.0 here.1 in
      first_starts P back i (grouped_at P front back p (subst (λ (l : List ℕ). Grouped (rows_by_page P l)) e
      v.grouped.grouped) i (page_row o.0 o.1 o.2) (row_on back i there))
    where
      page_row : (q : ℕ) → In q (p ∷ []) → In here.0 (rows_of (P q)) → OnPage i (rows_of (P p))
      page_row q (inl f) m = (here.0, subst (λ (z : ℕ). In here.0 (rows_of (P z))) f m, here.2)
      page_row q (inr z) m = absurd z

  complete : (i : ℕ) → HasRow P i → StartsWith P g.line i ⊎ IsAllPending P i
  complete i k =
      let o = on_line R P g k.row v.lined k.linked in
      elim (v.grouped.complete i (subst (λ (z : ℕ). InLine z (rows_by_page P g.line)) k.item
      (in_line P g.line o.0 k.row o.1 o.2))) [
        | inl first ↦ inl (first_starts P g.line i first)
        | inr all ↦ inr (all_pending i all)
      ]

  pub list_stands : AreRowsIndexed P → ListStands R P
  list_stands indexed = record {
    pages = g.line;
    is_line = v.lined.is_line;
    meta = λ some. let c = v.lined.counted some in (c.0, last_of g.line, c.1, last_is g.line);
    some_row = λ p i.
        let at = (v.lined.on p).0 i in
        let f : Fits L line (P p) = subst (λ (x : Place). Fits L x (P p)) at (v.kinds p) in
        row_there (P p).body f.0 f.1 (λ e. v.lined.some_row p at (ap rows_in_page f.1 ∙ e));
    together = together;
    complete = complete;
    indexed = indexed;
  }
    where
      rows_in_page : Body → List Row
      rows_in_page = Rattle.page_types.specs.Views.rows_in
