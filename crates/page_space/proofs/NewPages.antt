-- The page that is taken is a new one.
use Rattle.std.proofs.Common.{◌≡◌, ◌≢◌, ℕ, ◌<◌, ◌≤◌, refl, sym, ◌∙◌, arith}
use Rattle.page_types.specs.declared.page.Gone.{Gone}
use Rattle.page_types.specs.declared.page.Body.{Body}
use Rattle.page_types.specs.declared.page.Body.TheVariants as body
use Rattle.core_state.specs.Known.{use_by}
use Rattle.core_state.specs.Changes.{IsNew}
use Rattle.core_state.specs.States.{StateValue, use_of}
use Rattle.core_state.specs.PageChoice.{IsLeast, IsUnused}
use Rattle.core_state.specs.Steps.{IsNewSheet}
use Rattle.core_state.specs.declared.answers.PageUse.TheVariants as usage
use Rattle.page_space.specs.Taking.{IsTaken, TakenIsNew}

-- no page below the lowest unused one is unused
lower_used : (s : StateValue) (p : ℕ) → IsLeast (IsUnused s) p → (q : ℕ) → q < p → use_of s q ≢ usage.Unused
lower_used s p least q lt unused =
    let le : p ≤ q = least.least q (record { below = omega (arith, lt, least.holds.below); unused = unused }) in
    omega (arith, lt, le)

pub new_by : (s : StateValue) (since p : ℕ) → IsTaken s since p → IsNew (use_of s) since p
new_by s since p (IsTaken.deleted least) = IsNew.deleted least.holds.stamp least.holds.deleted least.holds.old
new_by s since p (IsTaken.unused none least) = IsNew.unused least.holds.unused (lower_used s p least)

-- a page that isn't used in a log is free there
free_by : (stamp : ℕ) (b : Body) → use_by stamp b ≡ usage.Unused → b ≡ body.Free
free_by stamp body.Free is = refl
free_by stamp (body.Deleted g) is = absurd cc
free_by stamp _ is = absurd cc

-- one that was deleted keeps the stamp
gone_by : (stamp at : ℕ) (b : Body) → use_by stamp b ≡ usage.Deleted at
    → (g : Gone) × (b ≡ body.Deleted g) × (stamp ≡ at)
gone_by stamp at body.Free is = absurd cc
gone_by stamp at (body.Deleted g) is = (g, refl, cc)
gone_by stamp at _ is = absurd cc

pub taken_new : TakenIsNew
taken_new R P s since p tells shows (IsTaken.deleted least) =
    let gone = gone_by (P p).stamp least.holds.stamp (P p).body (sym (tells.uses P shows p) ∙ least.holds.deleted) in
    IsNewSheet.deleted gone.0 gone.1 (omega (arith, gone.2, least.holds.old))
taken_new R P s since p tells shows (IsTaken.unused none least) =
    IsNewSheet.unused (free_by (P p).stamp (P p).body (sym (tells.uses P shows p) ∙ least.holds.unused))
    (λ q lt unused. lower_used s p least q lt (tells.uses P shows q ∙ unused))
