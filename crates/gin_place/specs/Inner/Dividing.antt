-- A page in two parts, and a key that divides what is below a child.
use Rattle.std.specs.Prelude.{◌≡◌, ◌≢◌, ◌⊎◌, ℕ, ◌<◌, Bool, true, false, List, length}
use Rattle.page_types.specs.Encoding.{body_bytes}
use Rattle.page_types.specs.Keys.{IsKey}
use Rattle.page_types.specs.Numbers.{item_limit}
use Rattle.page_types.specs.Pages.{IsPage}
use Rattle.page_types.specs.declared.page.Page.{Page}
use Rattle.page_types.specs.declared.page.Body.TheVariants as body
use Rattle.page_types.specs.declared.page.EntryChild.{EntryChild}
use Rattle.page_types.specs.declared.page.PostChild.{PostChild}
use Rattle.core_state.specs.Log.{In}
use Rattle.core_state.specs.Allowed.{Sheet}
use Rattle.core_state.specs.TreeRules.{half_body}
use Rattle.posting_code.specs.declared.dividing.Keep.{Keep}
use Rattle.entry_tree.specs.Reading as entry_rooms
use Rattle.entry_tree.specs.Splitting.{AreParts}
use Rattle.posting_tree.specs.Reading as post_rooms
use Rattle.gin_place.specs.Adopting.{Divider, DividesBy, CanTake, CanTakeItem, key_divider, item_divider}
use Rattle.gin_place.specs.Trees.{IsTreeBody}
use Rattle.gin_place.specs.declared.sought.Sought.{Sought}
use Rattle.gin_place.specs.declared.sought.Sought.TheVariants as sought
use Rattle.gin_place.specs.Causes.{CanDivide}
use Rattle.gin_place.specs.declared.error.PlaceError.{PlaceError}
use Rattle.gin_place.specs.declared.error.PlaceError.TheVariants.{BadPage, OutOfMemory}

-- what the first part ends with is a key, or an item
abbrev pub EndsWithin : Sought → Page → Type 0
EndsWithin sought.Key left = IsKey (entry_rooms.upper_in left.body)
EndsWithin (sought.Item root item) left = post_rooms.upper_in left.body < item_limit

-- a page of the tree that is large, in two parts, the second of which the new page takes
pub record AreSplit (t : Sought) (c : Page) (new : ℕ) (left right : Page) : Type 0 where
  pub was : IsPage c
  pub on_tree : IsTreeBody t c.body
  pub large : half_body < length (body_bytes c.body)
  pub keep : Keep
  pub parts : AreParts c new keep left right
  pub pages : IsPage left × IsPage right
  pub ends : EndsWithin t left
  pub used : (left.body ≢ body.Free) × (right.body ≢ body.Free)

-- the parent takes the new page
abbrev pub Takes : Sought → ℕ → Page → Page → Type 0
Takes sought.Key page left parent = CanTake page (entry_rooms.upper_in left.body) parent
Takes (sought.Item root item) page left parent = CanTakeItem page (post_rooms.upper_in left.body) parent

-- why a page that is held is not as this says
abbrev pub WhyNotTaken : (Page → Type 0) → Sheet → PlaceError → Type 0
WhyNotTaken Is held e = (e ≡ OutOfMemory) ⊎ ((e ≡ BadPage held.page) × IsPage held.content × (Is held.content → ⊥))

-- why it is not divided
abbrev pub WhyNotDivided : Sought → Sheet → PlaceError → Type 0
WhyNotDivided t held e = WhyNotTaken (CanDivide t) held e

-- why a page is not split, or its parent does not take the new page
abbrev pub WhyNoSplit : Sought → Sheet → Sheet → PlaceError → Type 0
WhyNoSplit t old above e =
    (e ≡ OutOfMemory) ⊎ (((e ≡ BadPage old.page) × IsPage old.content × (CanDivide t old.content → ⊥))
    ⊎ ((e ≡ BadPage above.page) × IsPage old.content × IsPage above.content × (new : ℕ) × (left : Page)
    × (right : Page) × AreSplit t old.content new left right × (Takes t old.page left above.content → ⊥)))

-- what children say that come before others: none has the page, and what divides is past all; or one has it, and what
-- is below that one is divided
abbrev pub PassedBy : {C : Type 0} → Divider C → Bool → List C → ℕ → Type 0
PassedBy {C} d false before page = (b : C) → In b before → (d.page b ≢ page) × d.IsPast b
PassedBy d true before page = DividesBy d before page

-- why the next child ends it: it has the page, which another has too, or what divides is not within it; or it comes
-- before the one with the page, and what divides is not past it
abbrev pub BarsBy : {C : Type 0} → Divider C → Bool → C → ℕ → Type 0
BarsBy d named c page =
    ((d.page c ≡ page) × ((named ≡ true) ⊎ (d.IsWithin c → ⊥)))
    ⊎ ((d.page c ≢ page) × (named ≡ false) × (d.IsPast c → ⊥))

abbrev pub Passed : Bool → List EntryChild → ℕ → List ℕ → Type 0
Passed named before page mid = PassedBy (key_divider mid) named before page

abbrev pub Bars : Bool → EntryChild → ℕ → List ℕ → Type 0
Bars named c page mid = BarsBy (key_divider mid) named c page

abbrev pub PassedItem : Bool → List PostChild → ℕ → ℕ → Type 0
PassedItem named before page mid = PassedBy (item_divider mid) named before page

abbrev pub BarsItem : Bool → PostChild → ℕ → ℕ → Type 0
BarsItem named c page mid = BarsBy (item_divider mid) named c page
