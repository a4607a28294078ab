-- What the test of a record's kind answers.
use Rattle.std.specs.Prelude.{◌≡◌, ◌↔◌, Bool, true, List, Result, IsOkAnd}
use Rattle.page_types.specs.declared.page.Page.{Page}
use Rattle.page_types.specs.declared.record.Record.{Record}
use Rattle.core_state.specs.Known.{Known}
use Rattle.core_state.specs.States.{StateValue, known_by}

-- It is true exactly where this part of a rule holds of the state, the record and its pages before and after.
abbrev pub Judges : {E : Type 0} → (Known → Record → List Page → List Page → Type 0) → StateValue → Record
    → List Page → List Page → Result Bool E → Type 0
Judges Here state rec before after result =
    IsOkAnd result (λ b. b ≡ true ↔ Here (known_by state) rec before after)
