-- A page that isn't free was changed by a record.
use Rattle.std.proofs.Common.{◌≡◌, ◌≢◌, ℕ, [], ◌∷◌, refl, sym, ap, subst, ◌∙◌, inl, inr}
use Rattle.page_types.specs.declared.page.Page.{Page}
use Rattle.page_types.specs.declared.page.Body.TheVariants as body
use Rattle.page_types.specs.declared.record.Record.{Record}
use Rattle.core_state.specs.Legal.{RecordsAreValid}
use Rattle.core_state.specs.Log.{Log, Pages, In, Shows, changed, cut}
use Rattle.core_state.proofs.PageLists.{in_or_not, in_back}
use Rattle.core_state.proofs.Showing.{shown_one, others_stay, none_yet, shown_none}
use Rattle.core_state.proofs.SteadyPages.{valid_behind}
use Rattle.core_state.proofs.Law.SnapshotsStay.{behind_cut}

-- some record changes the page
abbrev pub IsChangedBy : Log → ℕ → Type 0
IsChangedBy R p = (r : Record) × In r R × In p (changed r)

pub changed_page : (R : Log) (P : Pages) (p : ℕ) → RecordsAreValid R → Shows R P → (P p).body ≢ body.Free
    → IsChangedBy R p
changed_page [] P p v shown off =
    absurd (off (ap (λ (Q : Pages). (Q p).body) (shown_one [] P none_yet shown shown_none)))
changed_page (r ∷ R) P p v shown off = elim (in_or_not p (changed r)) [
  | inl i ↦ (r, inl refl, i)
  | inr away ↦
      let same : P p ≡ v.1.before p = others_stay R r v.1.before P v.1.shown shown p away in
      let c = changed_page R v.1.before p v.0 v.1.shown (λ e. off (ap (λ (q : Page). q.body) same ∙ e)) in
      (c.0, inr c.1, c.2)
]

-- and so it was at any length
pub changed_then : (R : Log) (t : ℕ) (P : Pages) (p : ℕ) → RecordsAreValid R → Shows (cut t R) P
    → (P p).body ≢ body.Free → IsChangedBy R p
changed_then R t P p v shown off =
    let b = behind_cut R t in
    let c = changed_page (cut t R) P p (valid_behind b.0 (cut t R) (subst RecordsAreValid b.1 v)) shown off in
    (c.0, subst (In c.0) (sym b.1) (in_back c.0 b.0 (cut t R) c.1), c.2)
