-- The slots of a heap page, and what a change of one of them leaves.
use Rattle.std.specs.Prelude.{◌≡◌, ◌≢◌, ◌⊎◌, ℕ, ◌<◌, ◌≤◌, List, length, Option, Some, None}
use Rattle.page_types.specs.Numbers.{most_slots, most_body}
use Rattle.page_types.specs.Encoding.{body_bytes}
use Rattle.page_types.specs.Views.{slots_of, slot_at}
use Rattle.page_types.specs.declared.page.Page.{Page}
use Rattle.page_types.specs.declared.page.Head.{Head}
use Rattle.page_types.specs.declared.page.Body.{Body}
use Rattle.page_types.specs.declared.page.Body.TheVariants as body
use Rattle.core_state.specs.Changes.{PutsSlot}

-- the head in a slot of the page, none where the slot is free or absent
abbrev pub head_on : Page → ℕ → Option Head
head_on p k = slot_at (slots_of p) k

-- slot k, which the page has, becomes this, and nothing else of the page changes
pub record ChangesSlot (old : Page) (k : ℕ) (slot : Option Head) (new : Page) : Type 0 where
  pub slots : List (Option Head)
  pub new_slots : List (Option Head)
  pub was : old.body ≡ body.Heap slots
  pub put : PutsSlot slots k slot new_slots
  pub same_length : length new_slots ≡ length slots
  pub after : new ≡ record old { body = body.Heap new_slots }

-- slot k is the lowest free one, or the next where none is free
pub record IsLowestFree (slots : List (Option Head)) (k : ℕ) : Type 0 where
  pub free : slot_at slots k ≡ None
  pub lower : (j : ℕ) → j < k → slot_at slots j ≢ None

-- the head comes into this slot of the page, and these are its slots then; a page that is no heap
-- page had none
pub record GetsHead (p : Page) (h : Head) (slot : ℕ) (slots : List (Option Head)) : Type 0 where
  pub lowest : IsLowestFree (slots_of p) slot
  pub in_row : slot ≤ length (slots_of p)
  pub put : PutsSlot (slots_of p) slot (Some h) slots

-- all slots that a page may have are used, or the body would be too long with the head in its slot
pub record HasNoRoom (p : Page) (h : Head) : Type 0 where
  pub slot : ℕ
  pub slots : List (Option Head)
  pub gets : GetsHead p h slot slots
  pub over : (most_slots ≤ slot) ⊎ (most_body < length (body_bytes (body.Heap slots)))

-- the right link of a page that becomes a heap page: a heap page keeps its own
abbrev pub right_on_heap : ℕ → Body → ℕ
right_on_heap right (body.Heap slots) = right
right_on_heap right _ = 0

-- the new page has the head in this slot, and is else as the old one
pub record IsPlaced (old : Page) (h : Head) (new : Page) (slot : ℕ) : Type 0 where
  pub slots : List (Option Head)
  pub gets : GetsHead old h slot slots
  pub below : slot < most_slots
  pub content : new.body ≡ body.Heap slots
  pub fits : length (body_bytes new.body) ≤ most_body
  pub right : new.right ≡ right_on_heap old.right old.body
  pub stamp : new.stamp ≡ old.stamp
