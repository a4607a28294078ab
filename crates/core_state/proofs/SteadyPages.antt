-- Pages that stay: what no record has changed, and what was deleted since a pin.
use Rattle.std.proofs.Common.{◌≡◌, ◌<◌, ◌≤◌, ℕ, suc, [], ◌∷◌, ◌++◌, length, refl, sym, ap, subst, ◌∙◌, inl, inr, arith}
use Rattle.std.proofs.lemmas.List.{length-append}
use Rattle.page_types.specs.Views.{free_page}
use Rattle.page_types.specs.declared.page.Page.{Page}
use Rattle.page_types.specs.declared.page.Body.TheVariants as body
use Rattle.page_types.specs.declared.page.Gone.{Gone}
use Rattle.page_types.specs.declared.record.Record.{Record}
use Rattle.core_state.specs.Log.{Log, Pages, In, Shows, changed}
use Rattle.core_state.specs.Legal.{Valid, RecordsAreValid, Pin, KeepsEach}
use Rattle.core_state.specs.Bullets.{DeletedStays}
use Rattle.core_state.specs.Steady.{FreeIsUntouched}
use Rattle.core_state.proofs.Showing.{shown_one, others_stay}
use Rattle.core_state.proofs.PageLists.{in_or_not}
use Rattle.core_state.specs.Inner.PageKinds.{Touched}
use Rattle.core_state.proofs.TouchedPages.{none_free, touched}
use Rattle.core_state.proofs.LivePages.{not_free, deleted_stays}

-- the pages that a valid record changes, and the others
pub touches : (R : Log) (r : Record) (floor since : ℕ) (v : Valid R r floor since) (p : ℕ) → In p (changed r)
    → Touched v.before v.after r since p
touches R r floor since v = touched R v.before v.after r floor since (none_free R v.before v.shown) v.rule

pub elsewhere : (R : Log) (r : Record) (floor since : ℕ) (v : Valid R r floor since) (p : ℕ) → (In p (changed r) → ⊥)
    → v.after p ≡ v.before p
elsewhere R r floor since v p off = others_stay R r v.before v.after v.shown v.shown_after p off

-- the pages after a valid record are those that it leaves
pub is_after : (R : Log) (r : Record) (floor since : ℕ) (v : Valid R r floor since) (P : Pages) → Shows (r ∷ R) P
    → (p : ℕ) → P p ≡ v.after p
is_after R r floor since v P shown p = ap (λ (S : Pages). S p) (shown_one (r ∷ R) P v.after shown v.shown_after)

-- the records before some later ones are valid
pub valid_behind : (later R : Log) → RecordsAreValid (later ++ R) → RecordsAreValid R
valid_behind [] R v = v
valid_behind (r ∷ later) R v = valid_behind later R v.0

-- no page has a stamp above the log's length
pub stamps_small : (R : Log) (P : Pages) → RecordsAreValid R → Shows R P → (p : ℕ) → (P p).stamp ≤ length R
stamps_small [] P v shown p = subst (λ (q : Page). q.stamp ≤ 0) (sym (none_free [] P shown refl p)) (omega arith)
stamps_small (r ∷ R) P v shown p = subst (λ (q : Page). q.stamp ≤ suc (length R))
    (sym (is_after R r _ _ v.1 P shown p)) (elim (in_or_not p (changed r)) [
      | inl i ↦ let e = (touches R r _ _ v.1 p i).stamp in omega (arith, e, v.1.number)
      | inr off ↦
          let small = stamps_small R v.1.before v.0 v.1.shown p in
          subst (λ (q : Page). q.stamp ≤ suc (length R)) (sym (elsewhere R r _ _ v.1 p off)) (omega (arith, small))
    ])

-- a page that is shown as free was changed by no record
pub free_untouched : (R : Log) (P : Pages) → RecordsAreValid R → Shows R P → FreeIsUntouched R P
free_untouched [] P v shown p e s m i = absurd m
free_untouched (r ∷ R) P v shown p e s m i = elim (in_or_not p (changed r)) [
  | inl j ↦ not_free v.1.before v.1.after r _ p (touches R r _ _ v.1 p j) now
  | inr off ↦ elim m [
    | inl same ↦ off (subst (λ (z : Record). In p (changed z)) same i)
    | inr n ↦ free_untouched R v.1.before v.0 v.1.shown p (sym (elsewhere R r _ _ v.1 p off) ∙ now) s n i
  ]
]
  where
    now : v.1.after p ≡ free_page
    now = sym (is_after R r _ _ v.1 P shown p) ∙ e

-- a page that was deleted since a pin stays as it was
stays_behind : (pin : Pin) (later then : Log) (P P' : Pages) → RecordsAreValid (later ++ then)
    → KeepsEach pin (later ++ then) → Shows (later ++ then) P → Shows then P' → (p : ℕ) (g : Gone)
    → (P' p).body ≡ body.Deleted g → pin.length < (P' p).stamp → P p ≡ P' p
stays_behind pin [] then P P' v k shown shown' p g is late = ap (λ (S : Pages). S p) (shown_one then P P' shown shown')
stays_behind pin (r ∷ later) then P P' v k shown shown' p g is late =
    let R : Log = later ++ then in
    let small = stamps_small then P' (valid_behind (r ∷ later) then v) shown' p in
    let u = k.2 (omega (arith, small, late, length-append later then)) in
    let w : Valid R r u.0 pin.length = u.2 in
    let same : w.before p ≡ P' p = stays_behind pin later then w.before P' v.0 k.0 w.shown shown' p g is late in
    is_after R r u.0 pin.length w P shown p
    ∙ deleted_stays w.before w.after r pin.length p g (touches R r u.0 pin.length w) (elsewhere R r u.0 pin.length w)
    (ap (λ (q : Page). q.body) same ∙ is)
    (subst (λ (q : Page). pin.length < q.stamp) (sym same) late)
    ∙ same

pub deleted_stay : (R : Log) (P : Pages) (pin : Pin) → RecordsAreValid R → KeepsEach pin R → Shows R P
    → DeletedStays R P pin
deleted_stay R P pin v k shown p g then later P' e shown' is late =
    stays_behind pin later then P P' (subst RecordsAreValid e v) (subst (KeepsEach pin) e k)
    (subst (λ (S : Log). Shows S P) e shown) shown' p g is late
