-- What is asked of the state of a log.
use Rattle.std.specs.Prelude.{ℕ, Option, Some, None}
use Rattle.core_state.specs.PageChoice.{IsLeast, AreBelow}
use Rattle.core_state.specs.States.{StateValue}
use Rattle.page_space.specs.Taking.{IsTaken, HasNoPage}
use Rattle.gin_place.specs.declared.asks.Extent.{Extent}
use Rattle.gin_place.specs.declared.asks.NewPage.{NewPage}

abbrev pub extent_answer : Extent → StateValue → ℕ → ℕ → ℕ → Type 0
extent_answer ask s floor since n = IsLeast (AreBelow s) n

abbrev pub new_page_answer : NewPage → StateValue → ℕ → ℕ → Option ℕ → Type 0
new_page_answer ask s floor since None = HasNoPage s since
new_page_answer ask s floor since (Some p) = IsTaken s since p
