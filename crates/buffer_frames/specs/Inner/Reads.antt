-- What has been read of a log so far.
use Rattle.std.specs.Prelude.{◌≡◌, ◌||◌, ◌==◌, ℕ, Bool, false, List, [], ◌∷◌}
use Rattle.std.specs.Prelude.{◌++◌, drop, reverse, unwrap_or, is_some, ⊤}
use Rattle.std.specs.List.{AllByRecursion, list_any}
use Rattle.disk_trait.specs.declared.device.Disk.{Ghosts as Disk}
use Rattle.page_types.specs.Edits.{CanEdit}
use Rattle.page_types.specs.Records.{record_bytes, IsRecord}
use Rattle.page_types.specs.declared.record.Record.{Record}
use Rattle.page_types.specs.declared.record.Change.{Change}
use Rattle.page_types.specs.declared.record.Edit.{Edit}
use Rattle.page_types.specs.declared.record.Edit.TheVariants.{Image, Delta}
use Rattle.core_state.specs.Log.{Log, In, after_changes}
use Rattle.core_state.specs.States.{StateValue, state_of}
use Rattle.core_state.specs.Stores.{AreRecordsOf}
use Rattle.buffer_frames.specs.Counted.{AreNumbered}
use Rattle.buffer_frames.specs.Applied.{page_or_zeros, applied, CanApply}
use Rattle.buffer_frames.specs.Maps.{lookup}
use Rattle.buffer_frames.specs.declared.page_map.PageMap.{PageMap}

-- whether a page is among changes
abbrev pub stands : ℕ → List Change → Bool
stands p cs = list_any (λ (c : Change). c.page == p) cs

-- whether some record changes the page
abbrev pub touches : Log → ℕ → Bool
touches [] p = false
touches (r ∷ R) p = stands p r.changes || touches R p

-- a page's bytes: those of the map, or else those of the page file
abbrev pub bytes_over : List ℕ → PageMap → ℕ → List ℕ
bytes_over file map p = unwrap_or (lookup map p) (page_or_zeros file p)

-- the map has the pages that the log changes, as the changes leave them
pub record HasPages (file : List ℕ) (map : PageMap) (R : Log) : Type 0 where
  pub bytes : (p : ℕ) → bytes_over file map p ≡ applied file R p
  pub there : (p : ℕ) → is_some (lookup map p) ≡ touches R p

-- a page's bytes before an edit, where they matter to it
abbrev pub BeginsAs : Edit → List ℕ → List ℕ → Type 0
BeginsAs (Image bytes) old bytes' = ⊤
BeginsAs (Delta front start cut bytes) old bytes' = old ≡ bytes'

-- these changes were made to the map, each of them to the page as it was before them all
pub record MakesChanges (file : List ℕ) (map map' : PageMap) (number : ℕ) (cs : List Change)
    : Type 0 where
  pub can : (c : Change) → In c cs → CanEdit c.edit (bytes_over file map c.page)
  pub bytes : (p : ℕ) → bytes_over file map' p ≡ after_changes number cs p (bytes_over file map p)
  pub there : (p : ℕ) → is_some (lookup map' p) ≡ (stands p cs || is_some (lookup map p))

-- These records were read into a state, from an empty one with these limits, and into a map over
-- the page file that the device has.
pub record IsRead {D : Type 0} (device : Disk D) (disk : D) (file : List ℕ) (pages xid_limit : ℕ)
    (state : StateValue) (map : PageMap) (R : Log) : Type 0 where
  pub file_is : device.tells → (device.seen disk).pages ≡ file
  pub numbered : AreNumbered R
  pub each : AllByRecursion IsRecord R
  pub state_is : state ≡ state_of pages xid_limit R
  pub applies : device.tells → CanApply file R
  pub has : device.tells → HasPages file map R

-- one record more was read from the front of these bytes, of this length
pub record ReadsOne {D : Type 0} (device : Disk D) (disk : D) (file : List ℕ) (pages xid_limit : ℕ)
    (state : StateValue) (map : PageMap) (R : Log) (bytes : List ℕ) (n : ℕ) : Type 0 where
  pub first : Record
  pub encoded : bytes ≡ record_bytes first ++ drop n bytes
  pub is_read : IsRead device disk file pages xid_limit state map (first ∷ R)

-- these bytes were read, the records of a batch
pub record ReadsBatch {D : Type 0} (device : Disk D) (disk : D) (file : List ℕ)
    (pages xid_limit : ℕ) (state : StateValue) (map : PageMap) (R : Log) (bytes : List ℕ) : Type 0 where
  pub records : List Record
  pub encoded : AreRecordsOf bytes records
  pub is_read : IsRead device disk file pages xid_limit state map (reverse records ++ R)
