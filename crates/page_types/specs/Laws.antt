-- What holds of all pages, item lists and records.
use Rattle.std.specs.Prelude.{◌≡◌, ◌↔◌, ℕ, ◌<◌, List, ◌++◌, length, get_or, Ok}
use Rattle.std.specs.List.{flat_map, AllByRecursion}
use Rattle.page_types.specs.Numbers.{u64_bytes, page_size}
use Rattle.page_types.specs.Items.{items_of, item_list, AreItems, IsItemList}
use Rattle.page_types.specs.ItemReading.{items_read}
use Rattle.page_types.specs.Encoding.{page_bytes, front_bytes, body_bytes}
use Rattle.page_types.specs.Pages.{IsPage}
use Rattle.page_types.specs.Records.{record_bytes, IsRecord, stamp_in}
use Rattle.page_types.specs.Edits.{edited, spliced, body_in}
use Rattle.page_types.specs.declared.page.Page.{Page}
use Rattle.page_types.specs.declared.record.Record.{Record}
use Rattle.page_types.specs.declared.record.Edit.TheVariants.{Delta}

-- two pages never share an encoding
abbrev pub EncodingTellsPage : Type 0
EncodingTellsPage = (p q : Page) → IsPage p → IsPage q → page_bytes p ≡ page_bytes q → p ≡ q

-- an encoding has 8192 bytes, the stamp at the bytes 8 to 15, and the body at its place
pub record HasParts (p : Page) : Type 0 where
  pub size : length (page_bytes p) ≡ page_size
  pub stamp : stamp_in (page_bytes p) ≡ u64_bytes p.stamp
  pub body : body_in (page_bytes p) ≡ body_bytes p.body

abbrev pub EncodingHasParts : Type 0
EncodingHasParts = (p : Page) → IsPage p → HasParts p

-- a delta with a page's front that makes its body of another's gives its encoding
abbrev pub DeltaLeadsToPage : Type 0
DeltaLeadsToPage = (p q : Page) (start cut : ℕ) (bytes : List ℕ) → IsPage p
    → body_bytes q.body ≡ spliced start cut bytes (body_bytes p.body)
    → edited q.stamp (Delta (front_bytes q) start cut bytes) (page_bytes p) ≡ page_bytes q

-- two item lists never have the same items
abbrev pub ItemsTellList : Type 0
ItemsTellList = (a b : List ℕ) → IsItemList a → IsItemList b → items_of a ≡ items_of b → a ≡ b

-- rising items have a list, and these are its items
pub record HasList (items : List ℕ) : Type 0 where
  pub is_list : IsItemList (item_list items)
  pub items_are : items_of (item_list items) ≡ items

abbrev pub ItemsHaveList : Type 0
ItemsHaveList = (items : List ℕ) → AreItems items → HasList items

-- bytes are read as items exactly where they are the list of these
abbrev pub ReadingTellsItems : Type 0
ReadingTellsItems = (bytes is : List ℕ) → ((i : ℕ) → get_or bytes i 0 < 256)
    → (items_read bytes ≡ Ok is) ↔ (IsItemList bytes × (items_of bytes ≡ is))

-- a record's encoding begins no other's
abbrev pub EncodingTellsRecord : Type 0
EncodingTellsRecord = (r s : Record) (behind_r behind_s : List ℕ) → IsRecord r → IsRecord s
    → record_bytes r ++ behind_r ≡ record_bytes s ++ behind_s → (r ≡ s) × (behind_r ≡ behind_s)

-- so records one after another have one reading
abbrev pub EncodingTellsRecords : Type 0
EncodingTellsRecords = (rs ss : List Record) → AllByRecursion IsRecord rs → AllByRecursion IsRecord ss
    → flat_map record_bytes rs ≡ flat_map record_bytes ss → rs ≡ ss
