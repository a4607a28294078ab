use Rattle.std.proofs.Common.{◌≡◌, ◌≤◌, ◌<◌, ℕ, get_or}
use Rattle.core_state.specs.declared.answers.PageUse.TheVariants as usage
use Rattle.core_state.proofs.uses.first_reusable.Given as goal

abbrev pub invariant-loop-page : goal.invariant-loop-page
invariant-loop-page l =
    (q : ℕ) → q < l.page → (stamp : ℕ) → get_or l.uses q usage.Unused ≡ usage.Deleted stamp → stamp ≤ l.since → ⊥
