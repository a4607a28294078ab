-- Numbers by which the pages with room are found among those where a slot was freed.
use Rattle.std.specs.Prelude.{◌≡◌, ℕ, suc, ◌-◌, ◌+◌, ◌≤◌, List, get_or, Some}
use Rattle.std.specs.List.{slice_get}
use Rattle.page_types.specs.Numbers.{most_body}
use Rattle.core_state.specs.Log.{In}

-- the greater, the shorter a body is; never 0
abbrev pub room_rank : ℕ → ℕ
room_rank size = suc (65535 - size)

-- these are the ranks of these pages, whose bodies have these lengths; every other page has 0
pub record AreRooms (pages sizes row : List ℕ) : Type 0 where
  pub here : (p : ℕ) → In p pages → get_or row p 0 ≡ room_rank (get_or sizes p 0)
  pub other : (p : ℕ) → (In p pages → ⊥) → get_or row p 0 ≡ 0

-- pages in rising order, and the lengths of all pages' bodies; how many pages have room, and below
-- which page lengths have
pub record FreedValue : Type 0 where
  pub pages : List ℕ
  pub sizes : List ℕ
  pub most : ℕ
  pub ends : ℕ

-- the page at this place has room for so many bytes
pub record HasRoomIn (pages sizes : List ℕ) (bytes place : ℕ) : Type 0 where
  pub page : ℕ
  pub at : slice_get pages place ≡ Some page
  pub fits : get_or sizes page 0 + bytes ≤ suc most_body
