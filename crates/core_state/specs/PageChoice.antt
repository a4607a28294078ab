-- Which page is taken next, which has room, and how far pages go.
use Rattle.std.specs.Prelude.{◌≡◌, ◌≢◌, ℕ, suc, ◌+◌, ◌<◌, ◌≤◌, Option, Some, None}
use Rattle.std.specs.List.{slice_get}
use Rattle.page_types.specs.Numbers.{most_body}
use Rattle.core_state.specs.States.{StateValue, use_of, size_of, heap_pages}
use Rattle.core_state.specs.declared.answers.PageUse.{PageUse}
use Rattle.core_state.specs.declared.answers.PageUse.TheVariants as usage

-- p is the least number of which this holds
pub record IsLeast (P : ℕ → Type 0) (p : ℕ) : Type 0 where
  pub holds : P p
  pub least : (q : ℕ) → P q → p ≤ q

-- the least number of which this holds; none where it holds of no number
abbrev pub IsLeastIfAny : (ℕ → Type 0) → Option ℕ → Type 0
IsLeastIfAny P None = (p : ℕ) → P p → ⊥
IsLeastIfAny P (Some p) = IsLeast P p

-- a page that the store may have, and that no record has changed
pub record IsUnused (s : StateValue) (p : ℕ) : Type 0 where
  pub below : p < s.pages
  pub unused : use_of s p ≡ usage.Unused

-- a page that was deleted by a record of number `since` at most
pub record IsReusable (uses : ℕ → PageUse) (since p : ℕ) : Type 0 where
  pub stamp : ℕ
  pub deleted : uses p ≡ usage.Deleted stamp
  pub old : stamp ≤ since

-- the pages that the store may have, and those that a record has changed, are below n
pub record AreBelow (s : StateValue) (n : ℕ) : Type 0 where
  pub pages : s.pages ≤ n
  pub changed : (p : ℕ) → use_of s p ≢ usage.Unused → p < n

-- the old heap page at this place of those that a head is tried on has room for so many bytes, of
-- which one may be a free slot's: its body, as its last record made it, and they are 8169 at most
pub record HasRoomAt (s : StateValue) (bytes place : ℕ) : Type 0 where
  pub page : ℕ
  pub at : slice_get (heap_pages s) place ≡ Some page
  pub fits : size_of s page + bytes ≤ suc most_body
