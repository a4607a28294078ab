-- Numbers by which the oldest deleted pages are found.
use Rattle.std.specs.Prelude.{◌≡◌, ℕ, ◌-◌, List, get_or}
use Rattle.core_state.specs.declared.answers.PageUse.{PageUse}
use Rattle.core_state.specs.declared.answers.PageUse.TheVariants.{Unused, Used, Deleted}

-- the greater, the older the stamp of a deleted page is; 0 of every other page
abbrev pub rank : PageUse → ℕ
rank Unused = 0
rank Used = 0
rank (Deleted stamp) = 18446744073709551615 - stamp

-- these are the ranks of pages of these uses
abbrev pub AreRanks : List PageUse → List ℕ → Type 0
AreRanks us row = (p : ℕ) → get_or row p 0 ≡ rank (get_or us p Unused)
