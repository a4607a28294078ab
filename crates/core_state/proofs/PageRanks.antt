-- The oldest deleted pages by their ranks.
use Rattle.std.proofs.Common.{◌≡◌, ◌≢◌, ◌<◌, ◌≤◌, ◌-◌, ℕ, List, get_or, refl, sym, ap, ◌∙◌, inl, inr, arith}
use Rattle.std.specs.Prelude.{Option, Some, None}
use Rattle.core_state.specs.PageChoice.{IsLeastIfAny, IsReusable}
use Rattle.core_state.specs.States.{with_use}
use Rattle.core_state.specs.Inner.Ranks.{rank, AreRanks}
use Rattle.core_state.specs.declared.answers.PageUse.{PageUse}
use Rattle.core_state.specs.declared.answers.PageUse.TheVariants as usage
use Rattle.core_state.proofs.PutLists.{put_here, put_else}
use Rattle.core_state.proofs.RunningOnes.{same_or_other}

-- the ranks after the use of one page
pub ranks_put : (us : List PageUse) (row new : List ℕ) (p : ℕ) (u : PageUse) → AreRanks us row
    → get_or new p 0 ≡ rank u → ((q : ℕ) → q ≢ p → get_or new q 0 ≡ get_or row q 0) → AreRanks (with_use p u us) new
ranks_put us row new p u old here others q = elim (same_or_other q p) [
  | inl e ↦ ap (λ (j : ℕ). get_or new j 0) e ∙ here
      ∙ ap rank (sym (put_here usage.Unused us p u) ∙ ap (λ (j : ℕ). get_or (with_use p u us) j usage.Unused) (sym e))
  | inr d ↦ others q d ∙ old q ∙ ap rank (sym (put_else usage.Unused us p q u d))
]

-- a rank that is large enough is that of a page whose stamp is old enough
reached : (u : PageUse) (since n : ℕ) → since < 18446744073709551615 → n ≡ rank u → 18446744073709551615 - since ≤ n
    → (stamp : ℕ) × (u ≡ usage.Deleted stamp) × (stamp ≤ since)
reached usage.Unused since n l e r = absurd (omega (arith, l, e, r))
reached usage.Used since n l e r = absurd (omega (arith, l, e, r))
reached (usage.Deleted stamp) since n l e r = (stamp, refl, omega (arith, l, e, r))

old_rank : (u : PageUse) (since stamp n : ℕ) → n ≡ rank u → u ≡ usage.Deleted stamp → stamp ≤ since
    → 18446744073709551615 - since ≤ n
old_rank u since stamp n e d l =
    let is : n ≡ 18446744073709551615 - stamp = e ∙ ap rank d in
    omega (arith, is, l)

pub least_by_rank : (us : List PageUse) (row : List ℕ) (since : ℕ) (o : Option ℕ) → since < 18446744073709551615
    → AreRanks us row → IsLeastIfAny (λ (p : ℕ). (0 ≤ p) × (18446744073709551615 - since ≤ get_or row p 0)) o
    → IsLeastIfAny (IsReusable (λ (p : ℕ). get_or us p usage.Unused) since) o
least_by_rank us row since None l ranks none = λ p r.
    none p (omega arith, old_rank (get_or us p usage.Unused) since r.stamp (get_or row p 0) (ranks p) r.deleted r.old)
least_by_rank us row since (Some p) l ranks least =
    let h = reached (get_or us p usage.Unused) since (get_or row p 0) l (ranks p) least.holds.1 in
    record {
      holds = record { stamp = h.0; deleted = h.1; old = h.2 };
      least = λ q r. least.least q
          (omega arith, old_rank (get_or us q usage.Unused) since r.stamp (get_or row q 0) (ranks q) r.deleted r.old);
    }
