-- A page's stamp is the number of the last record that changed it.
use Rattle.std.proofs.Common.{ℕ, [], ◌∷◌, sym, ap, refl, subst, inl, inr}
use Rattle.page_types.specs.declared.page.Page.{Page}
use Rattle.page_types.specs.declared.record.Record.{Record}
use Rattle.core_state.specs.Log.{Log, Pages, In, Shows, changed}
use Rattle.core_state.specs.Legal.{RecordsAreValid}
use Rattle.core_state.specs.PagesTold.{IsLastChange, StampsStand}
use Rattle.core_state.proofs.PageLists.{in_or_not}
use Rattle.core_state.proofs.TouchedPages.{none_free}
use Rattle.core_state.proofs.SteadyPages.{touches, elsewhere, is_after}

-- a record that doesn't change the page
more : (r : Record) (R : Log) (p n : ℕ) → (In p (changed r) → ⊥) → IsLastChange R p n → IsLastChange (r ∷ R) p n
more r R p n off (IsLastChange.none all) = IsLastChange.none (λ s i. elim i [
  | inl e ↦ λ m. off (subst (λ (z : Record). In p (changed z)) e m)
  | inr j ↦ all s j
])
more r R p n off (IsLastChange.by later s earlier e i all) =
    IsLastChange.by (r ∷ later) s earlier (ap (λ (l : Log). r ∷ l) e) i (λ t j. elim j [
      | inl f ↦ λ m. off (subst (λ (z : Record). In p (changed z)) f m)
      | inr k ↦ all t k
    ])

pub stamps_stand : (R : Log) (P : Pages) → RecordsAreValid R → Shows R P → StampsStand R P
stamps_stand [] P v shown p =
    subst (λ (q : Page). IsLastChange [] p q.stamp) (sym (none_free [] P shown refl p))
    (IsLastChange.none (λ r i. absurd i))
stamps_stand (r ∷ R) P v shown p = subst (λ (q : Page). IsLastChange (r ∷ R) p q.stamp)
    (sym (is_after R r _ _ v.1 P shown p)) (elim (in_or_not p (changed r)) [
      | inl i ↦ subst (IsLastChange (r ∷ R) p) (sym (touches R r _ _ v.1 p i).stamp)
          (IsLastChange.by [] r R refl i (λ s j. absurd j))
      | inr off ↦ subst (λ (q : Page). IsLastChange (r ∷ R) p q.stamp) (sym (elsewhere R r _ _ v.1 p off))
          (more r R p _ off (stamps_stand R v.1.before v.0 v.1.shown p))
    ])
