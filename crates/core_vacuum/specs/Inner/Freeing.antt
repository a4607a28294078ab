-- What a record FreeSlots leaves of its page.
use Rattle.std.specs.Prelude.{◌≡◌, ◌≢◌, ℕ, List, length, Option, None}
use Rattle.page_types.specs.Views.{slot_at}
use Rattle.page_types.specs.declared.page.Page.{Page}
use Rattle.page_types.specs.declared.page.Head.{Head}
use Rattle.page_types.specs.declared.page.Body.TheVariants as body
use Rattle.page_types.specs.declared.record.Record.{Record}
use Rattle.core_state.specs.Known.{Known}
use Rattle.core_state.specs.Changes.{made_with}
use Rattle.core_state.specs.VacuumRules.{SlotLoses}

-- a slot was used, and is free
abbrev pub BecomesFree : Option Head → Option Head → Type 0
BecomesFree old new = (old ≢ None) × (new ≡ None)

-- the slots stay as they are, or become free where they may, one at least
pub record SlotsGo (k : Known) (floor : ℕ) (slots new : List (Option Head)) : Type 0 where
  pub same_length : length new ≡ length slots
  pub each : (slot : ℕ) → SlotLoses k floor (slot_at slots slot) (slot_at new slot)
  pub some : new ≢ slots

-- a record leaves a heap page so, and all else of it as it was
pub record LeavesSlots (k : Known) (floor : ℕ) (r : Record) (old new : Page) : Type 0 where
  pub slots : List (Option Head)
  pub new_slots : List (Option Head)
  pub was : old.body ≡ body.Heap slots
  pub go : SlotsGo k floor slots new_slots
  pub after : new ≡ made_with r old.right (body.Heap new_slots)
