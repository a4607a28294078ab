-- The lowest page that is in no use.
use Rattle.std.specs.Prelude.{◌≡◌, ◌≢◌, ℕ, suc, ◌<◌, List, length, get_or}
use Rattle.core_state.specs.declared.answers.PageUse.{PageUse}
use Rattle.core_state.specs.declared.answers.PageUse.TheVariants as usage

-- each page below p is or was in use
abbrev pub AreUsedBelow : List PageUse → ℕ → Type 0
AreUsedBelow us p = (q : ℕ) → q < p → get_or us q usage.Unused ≢ usage.Unused

-- p is the lowest unused page
pub record IsLowest (us : List PageUse) (p : ℕ) : Type 0 where
  pub unused : get_or us p usage.Unused ≡ usage.Unused
  pub below : AreUsedBelow us p

-- the last page of the list is or was in use
abbrev pub EndsUsed : List PageUse → Type 0
EndsUsed us = (n : ℕ) → length us ≡ suc n → get_or us n usage.Unused ≢ usage.Unused

-- what is kept of the uses of pages: the lowest unused one is p, and the last one is or was in use
pub record AreUses (us : List PageUse) (p : ℕ) : Type 0 where
  pub lowest : IsLowest us p
  pub ends : EndsUsed us
