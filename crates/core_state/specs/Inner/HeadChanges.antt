-- A head on its heap page, and what a record leaves of it.
use Rattle.std.specs.Prelude.{◌≡◌, ◌≢◌, ◌⊎◌, ℕ, ◌<◌, List, [], ◌∷◌, length, Option, Some}
use Rattle.page_types.specs.Numbers.{most_short, most_body}
use Rattle.page_types.specs.Views.{slot_at}
use Rattle.page_types.specs.declared.page.Page.{Page}
use Rattle.page_types.specs.declared.page.Head.{Head}
use Rattle.page_types.specs.declared.page.Name.{Name}
use Rattle.page_types.specs.declared.page.Body.TheVariants as body
use Rattle.page_types.specs.declared.record.Record.{Record}
use Rattle.core_state.specs.Log.{changed}
use Rattle.core_state.specs.Changes.{made_with, IsNew, PutsSlot}
use Rattle.core_state.specs.declared.answers.Fate.{Fate}
use Rattle.core_state.specs.declared.answers.Fate.TheVariants.{Running, Aborted, Committed}
use Rattle.core_state.specs.declared.answers.PageUse.{PageUse}

-- the document with this name has its slot of this heap page, with this head
pub record HasHead (page : Page) (n : Name) (h : Head) : Type 0 where
  pub slots : List (Option Head)
  pub content : page.body ≡ body.Heap slots
  pub at : slot_at slots n.slot ≡ Some h
  pub serial_is : h.serial ≡ n.serial

-- a record changes the heap page of this name, on which its document has this head, and a new page
pub record FindsHead (uses : ℕ → PageUse) (since : ℕ) (r : Record) (n : Name) (before : List Page)
    (page : ℕ) (h : Head) : Type 0 where
  pub old : Page
  pub was : Page
  pub pages : changed r ≡ n.page ∷ page ∷ []
  pub is_new : IsNew uses since page
  pub before_is : before ≡ old ∷ was ∷ []
  pub has : HasHead old n h

-- a record leaves the page with this head in slot k, and all else of it as it was
pub record LeavesInSlot (r : Record) (k : ℕ) (old : Page) (h : Head) (new : Page) : Type 0 where
  pub slots : List (Option Head)
  pub new_slots : List (Option Head)
  pub before : old.body ≡ body.Heap slots
  pub put : PutsSlot slots k (Some h) new_slots
  pub after : new ≡ made_with r old.right (body.Heap new_slots)

-- a record leaves a part of a vector on this page, in front of the page `first`, a full one where
-- there is such a page
pub record LeavesPart (r : Record) (first : ℕ) (new : Page) : Type 0 where
  pub part : List ℕ
  pub full : first ≢ 0 → length part ≡ most_body
  pub after : new ≡ made_with r first (body.Overflow part)

-- the document was inserted by a commit, and whoever marked it was aborted
pub record MayBeMarked (fates : ℕ → Fate) (inserted_by deleted_by : ℕ) : Type 0 where
  pub number : ℕ
  pub inserted : fates inserted_by ≡ Committed number
  pub unmarked : (deleted_by ≡ 0) ⊎ (fates deleted_by ≡ Aborted)

-- the transaction placed the head, whose vector is too long for it, and runs
pub record MayBePut (fates : ℕ → Fate) (xid inserted_by bytes : ℕ) : Type 0 where
  pub own : inserted_by ≡ xid
  pub runs : fates xid ≡ Running
  pub long : most_short < bytes
