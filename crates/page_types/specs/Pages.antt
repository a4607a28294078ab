-- What has an encoding as a page. Of bytes nothing is said: that they are below 256 their type
-- says.
use Rattle.std.specs.Prelude.{◌≡◌, ◌≢◌, ◌⊎◌, ℕ, ◌^◌, ◌<◌, ◌≤◌, List, [], length, Option, Some, None, ⊤}
use Rattle.std.specs.List.{AllByRecursion}
use Rattle.page_types.specs.Numbers.{page_limit, item_limit, most_slots, most_short, most_inline, most_body, no_bound}
use Rattle.page_types.specs.Items.{IsItemList}
use Rattle.page_types.specs.Keys.{IsKey, KeyLess, BoundLess, Rising}
use Rattle.page_types.specs.Encoding.{body_bytes, count_of}
use Rattle.page_types.specs.declared.page.Page.{Page}
use Rattle.page_types.specs.declared.page.Head.{Head}
use Rattle.page_types.specs.declared.page.Row.{Row}
use Rattle.page_types.specs.declared.page.Entry.{Entry}
use Rattle.page_types.specs.declared.page.Postings.{Postings}
use Rattle.page_types.specs.declared.page.Postings.TheVariants.{Inline, Root}
use Rattle.page_types.specs.declared.page.EntryChild.{EntryChild}
use Rattle.page_types.specs.declared.page.PostChild.{PostChild}
use Rattle.page_types.specs.declared.page.Body.{Body}
use Rattle.page_types.specs.declared.page.Body.TheVariants.{Free, Meta, Heap, Overflow, Pending, EntryLeaf, EntryInner}
use Rattle.page_types.specs.declared.page.Body.TheVariants.{PostLeaf, PostInner, Deleted}
use Rattle.page_types.specs.declared.page.Gone.{Gone}
use Rattle.page_types.specs.declared.page.Gone.TheVariants as gone

-- a vector of at most 2000 bytes is in its head, a longer one is not
abbrev pub IsVectorIn : ℕ → List ℕ → Type 0
IsVectorIn bytes vector = ((bytes ≤ most_short) × (length vector ≡ bytes)) ⊎ ((most_short < bytes) × (vector ≡ []))

pub record IsHead (h : Head) : Type 0 where
  pub serial : h.serial < 2 ^ 64
  pub inserted_by : h.inserted_by < 2 ^ 32
  pub deleted_by : h.deleted_by < 2 ^ 32
  pub overflow : h.overflow < page_limit
  pub private : h.private < page_limit
  pub bytes : h.bytes < 2 ^ 32
  pub vector : IsVectorIn h.bytes h.vector

abbrev pub IsSlot : Option Head → Type 0
IsSlot None = ⊤
IsSlot (Some h) = IsHead h

-- an item with one key or more, which rise
pub record IsRow (r : Row) : Type 0 where
  pub item : r.item < item_limit
  pub some : r.keys ≢ []
  pub count : length r.keys < 2 ^ 16
  pub keys : AllByRecursion IsKey r.keys
  pub rising : Rising KeyLess r.keys

abbrev pub ArePostings : Postings → Type 0
ArePostings (Inline items) = (length items ≤ most_inline) × IsItemList items
ArePostings (Root root) = root < page_limit

pub record IsEntry (e : Entry) : Type 0 where
  pub key : IsKey e.key
  pub postings : ArePostings e.postings

-- a high key is there exactly where a right link is
abbrev pub IsHighKey : ℕ → List ℕ → Type 0
IsHighKey right high = ((right ≡ 0) × (high ≡ [])) ⊎ ((right ≢ 0) × IsKey high)

-- so is a high item
pub record IsHighItem (right high : ℕ) : Type 0 where
  pub item : high < item_limit
  pub none : right ≡ 0 → high ≡ 0
  pub some : right ≢ 0 → high ≢ 0

-- a bound is a key, or none where there is no right link
pub record IsEntryChild (right : ℕ) (c : EntryChild) : Type 0 where
  pub page : c.page < page_limit
  pub bound : IsKey c.bound ⊎ ((c.bound ≡ []) × (right ≡ 0))

-- a bound is an item, or no bound where there is no right link
pub record IsPostChild (right : ℕ) (c : PostChild) : Type 0 where
  pub page : c.page < page_limit
  pub bound : (c.bound < item_limit) ⊎ ((c.bound ≡ no_bound) × (right ≡ 0))

-- one child or more, whose bounds rise: so only the last has none
pub record AreEntryChildren (right : ℕ) (children : List EntryChild) : Type 0 where
  pub some : children ≢ []
  pub each : AllByRecursion (IsEntryChild right) children
  pub rising : Rising (λ c d. BoundLess c.bound d.bound) children

pub record ArePostChildren (right : ℕ) (children : List PostChild) : Type 0 where
  pub some : children ≢ []
  pub each : AllByRecursion (IsPostChild right) children
  pub rising : Rising (λ c d. c.bound < d.bound) children

pub record AreEntries (entries : List Entry) : Type 0 where
  pub each : AllByRecursion IsEntry entries
  pub rising : Rising (λ d e. KeyLess d.key e.key) entries

pub record IsMeta (first last pages : ℕ) : Type 0 where
  pub first_page : first < page_limit
  pub last_page : last < page_limit
  pub number : pages < 2 ^ 32

abbrev pub IsGone : ℕ → Gone → Type 0
IsGone right (gone.Overflow bytes) = ⊤
IsGone right (gone.Pending rows) = AllByRecursion IsRow rows
IsGone right (gone.PostLeaf high items) = IsHighItem right high × IsItemList items

-- what may be on a page with this right link and this stamp
abbrev pub IsBody : ℕ → ℕ → Body → Type 0
IsBody right stamp Free = (right ≡ 0) × (stamp ≡ 0)
IsBody right stamp (Meta first last pages) = IsMeta first last pages
IsBody right stamp (Heap slots) = (length slots ≤ most_slots) × AllByRecursion IsSlot slots
IsBody right stamp (Overflow bytes) = ⊤
IsBody right stamp (Pending rows) = AllByRecursion IsRow rows
IsBody right stamp (EntryLeaf high entries) = IsHighKey right high × AreEntries entries
IsBody right stamp (EntryInner children) = AreEntryChildren right children
IsBody right stamp (PostLeaf high items) = IsHighItem right high × IsItemList items
IsBody right stamp (PostInner children) = ArePostChildren right children
IsBody right stamp (Deleted g) = IsGone right g

-- the page has an encoding
pub record IsPage (p : Page) : Type 0 where
  pub right : p.right < page_limit
  pub stamp : p.stamp < 2 ^ 64
  pub body : IsBody p.right p.stamp p.body
  pub count : count_of p.body < 2 ^ 16
  pub fits : length (body_bytes p.body) ≤ most_body
