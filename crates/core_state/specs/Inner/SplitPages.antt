-- How a page of a tree is divided.
use Rattle.std.specs.Prelude.{◌≡◌, ◌≢◌, ℕ, ◌+◌, ◌<◌, ◌≤◌, List, [], ◌∷◌, ◌++◌, length}
use Rattle.std.specs.List.{flat_map}
use Rattle.ts_base.specs.Keys.{Key}
use Rattle.page_types.specs.Numbers.{most_body}
use Rattle.page_types.specs.Items.{items_of}
use Rattle.page_types.specs.Keys.{KeyLess}
use Rattle.page_types.specs.Encoding.{entry_bytes, body_bytes, count_of}
use Rattle.page_types.specs.declared.page.Page.{Page}
use Rattle.page_types.specs.declared.page.Entry.{Entry}
use Rattle.page_types.specs.declared.page.Body.{Body}
use Rattle.page_types.specs.declared.record.Record.{Record}
use Rattle.core_state.specs.Log.{In}
use Rattle.core_state.specs.Changes.{made_with, KeyAtMost}
use Rattle.core_state.specs.TreeRules.{EntryHalves, PostHalves, Halves, FitsPage, IsDivided}
use Rattle.core_state.specs.TreeRules.{IsSplitPlace, half_body}

-- there are entries on both sides, those of the first up to this key, and the others above it
pub record Divides (mid : Key) (front back : List Entry) : Type 0 where
  pub some_front : front ≢ []
  pub some_back : back ≢ []
  pub up_to : (e : Entry) → In e front → KeyAtMost e.key mid
  pub above : (e : Entry) → In e back → KeyLess mid e.key

-- there are items on both sides, those of a list, and those of the first are up to this item and the others above it
pub record DividesList (mid : ℕ) (items front back : List ℕ) : Type 0 where
  pub some_front : items_of front ≢ []
  pub some_back : items_of back ≢ []
  pub joined : items_of items ≡ items_of front ++ items_of back
  pub up_to : (i : ℕ) → In i (items_of front) → i ≤ mid
  pub above : (i : ℕ) → In i (items_of back) → mid < i

-- after first entries with this many bytes no longer first part of a leaf fits on a page
abbrev pub NoLonger : ℕ → List Entry → Type 0
NoLonger size back =
    (a : List Entry) (e : Entry) (b : List Entry) → back ≡ a ++ e ∷ b → b ≢ []
    → most_body < size + (length (flat_map entry_bytes (a ++ e ∷ [])) + (2 + length e.key))

-- a page of either tree is divided into two
pub data AreHalves (whole left right : Body) : Type 0 where
  entries : (mid : Key) → EntryHalves mid whole left right → AreHalves whole left right
  postings : (mid : ℕ) → PostHalves mid whole left right → AreHalves whole left right

-- no longer first part fits
abbrev pub IsLongest : Body → Body → Type 0
IsLongest whole left = (l r : Body) → Halves whole l r → FitsPage l → count_of l ≤ count_of left

-- three pages, of which the first is divided into it and the second, and the third has the second after it
pub record Divided (page new : ℕ) (before after : List Page) : Type 0 where
  pub old : Page
  pub was : Page
  pub old_parent : Page
  pub left : Page
  pub right : Page
  pub parent : Page
  pub before_is : before ≡ old ∷ was ∷ old_parent ∷ []
  pub after_is : after ≡ left ∷ right ∷ parent ∷ []
  pub divided : IsDivided page new old.body left.body right.body old_parent.body parent.body

-- a record leaves a page with a large body divided, with its second part on the new page, and the new page with its
-- parent
pub record LeavesSplit (r : Record) (page new : ℕ) (before after : List Page) : Type 0 where
  pub divided : Divided page new before after
  pub large : half_body < length (body_bytes divided.old.body)
  pub place : IsSplitPlace divided.old.body divided.left.body
  pub left_is : divided.left ≡ made_with r new divided.left.body
  pub right_is : divided.right ≡ made_with r divided.old.right divided.right.body
  pub parent_is : divided.parent ≡ made_with r divided.old_parent.right divided.parent.body
