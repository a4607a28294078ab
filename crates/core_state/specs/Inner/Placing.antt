-- A new head in a slot of a heap page.
use Rattle.std.specs.Prelude.{◌≡◌, ◌⊎◌, ℕ, ◌≤◌, List, [], length, Option, Some, None}
use Rattle.page_types.specs.Views.{slot_at}
use Rattle.page_types.specs.declared.page.Page.{Page}
use Rattle.page_types.specs.declared.page.Head.{Head}
use Rattle.page_types.specs.declared.page.Name.{Name}
use Rattle.page_types.specs.declared.page.Body.TheVariants as body
use Rattle.page_types.specs.declared.record.Record.{Record}
use Rattle.core_state.specs.Changes.{made_with, IsNew, PutsSlot}
use Rattle.core_state.specs.HeapRules.{IsNewHead}
use Rattle.core_state.specs.declared.answers.PageUse.{PageUse}

-- slot k, which was free or is the next, gets a new head with this serial, of this transaction, and
-- the others stay
pub record PlacesHead (slots : List (Option Head)) (k : ℕ) (new : List (Option Head))
    (serial xid : ℕ) : Type 0 where
  pub head : Head
  pub was_free : slot_at slots k ≡ None
  pub in_row : k ≤ length slots
  pub new_head : IsNewHead head serial xid
  pub put : PutsSlot slots k (Some head) new

-- an old heap page, or a new page, is left with a new head in the slot of this name
pub record LeavesHead (uses : ℕ → PageUse) (since : ℕ) (r : Record) (n : Name)
    (old new : Page) : Type 0 where
  pub slots : List (Option Head)
  pub new_slots : List (Option Head)
  pub right : ℕ
  pub page : ((old.body ≡ body.Heap slots) × (right ≡ old.right))
      ⊎ ((slots ≡ []) × (right ≡ 0) × IsNew uses since n.page)
  pub places : PlacesHead slots n.slot new_slots n.serial r.xid
  pub after : new ≡ made_with r right (body.Heap new_slots)
