-- The bytes of a record, and what has such an encoding.
use Rattle.std.specs.Prelude.{◌≡◌, ◌≢◌, ℕ, ◌^◌, ◌<◌, List, [], ◌∷◌, ◌++◌, length, take, drop, ⊤}
use Rattle.std.specs.List.{flat_map, AllByRecursion}
use Rattle.page_types.specs.Numbers.{u16_bytes, u32_bytes, u64_bytes, page_size, page_limit, item_limit}
use Rattle.page_types.specs.Keys.{Rising}
use Rattle.page_types.specs.declared.record.Record.{Record}
use Rattle.page_types.specs.declared.record.Change.{Change}
use Rattle.page_types.specs.declared.record.Edit.{Edit}
use Rattle.page_types.specs.declared.record.Edit.TheVariants.{Image, Delta}
use Rattle.page_types.specs.declared.record.Kind.{Kind}
use Rattle.page_types.specs.declared.record.Kind.TheVariants as kind

abbrev pub kind_number : Kind → ℕ
kind_number kind.Create = 1
kind_number kind.Begin = 2
kind_number (kind.Commit commit) = 3
kind_number kind.Abort = 4
kind_number (kind.Checkpoint redo) = 5
kind_number (kind.PlaceHead item serial) = 6
kind_number (kind.PutOverflow item serial) = 7
kind_number (kind.MarkDeleted item serial) = 8
kind_number (kind.PutPending item serial) = 9
kind_number (kind.AddRow item serial) = 10
kind_number (kind.LinkPending item serial) = 11
kind_number kind.Shift = 12
kind_number kind.AddItems = 13
kind_number kind.MakeTree = 14
kind_number kind.AddPostings = 15
kind_number kind.GrowRoot = 16
kind_number kind.Split = 17
kind_number kind.RemoveItems = 18
kind_number kind.DeletePost = 19
kind_number (kind.DropPage item serial) = 20
kind_number kind.FreeSlots = 21

-- a document by its item and its serial
abbrev pub document_bytes : ℕ → ℕ → List ℕ
document_bytes item serial = u32_bytes item ++ u64_bytes serial

-- the fields of a kind
abbrev pub kind_bytes : Kind → List ℕ
kind_bytes (kind.Commit commit) = u32_bytes commit
kind_bytes (kind.Checkpoint redo) = u64_bytes redo
kind_bytes (kind.PlaceHead item serial) = document_bytes item serial
kind_bytes (kind.PutOverflow item serial) = document_bytes item serial
kind_bytes (kind.MarkDeleted item serial) = document_bytes item serial
kind_bytes (kind.PutPending item serial) = document_bytes item serial
kind_bytes (kind.AddRow item serial) = document_bytes item serial
kind_bytes (kind.LinkPending item serial) = document_bytes item serial
kind_bytes (kind.DropPage item serial) = document_bytes item serial
kind_bytes _ = []

-- the byte 0 and an image, or the byte 1 and a delta
abbrev pub edit_bytes : Edit → List ℕ
edit_bytes (Image bytes) = 0 ∷ bytes
edit_bytes (Delta front start cut bytes) =
    1 ∷ (front ++ (u16_bytes start ++ (u16_bytes cut ++ (u16_bytes (length bytes) ++ bytes))))

unfoldable pub change_bytes : Change → List ℕ
change_bytes c = u32_bytes c.page ++ edit_bytes c.edit

-- all after the length
unfoldable pub record_rest : Record → List ℕ
record_rest r = kind_number r.kind ∷ (u32_bytes r.xid ++ (u64_bytes r.number
    ++ (kind_bytes r.kind ++ (length r.changes ∷ flat_map change_bytes r.changes))))

unfoldable pub record_bytes : Record → List ℕ
record_bytes r = u32_bytes (length (record_rest r)) ++ record_rest r

abbrev pub IsDocument : ℕ → ℕ → Type 0
IsDocument item serial = (item < item_limit) × (serial < 2 ^ 64)

abbrev pub IsKind : Kind → Type 0
IsKind (kind.Commit commit) = commit < 2 ^ 32
IsKind (kind.Checkpoint redo) = redo < 2 ^ 64
IsKind (kind.PlaceHead item serial) = IsDocument item serial
IsKind (kind.PutOverflow item serial) = IsDocument item serial
IsKind (kind.MarkDeleted item serial) = IsDocument item serial
IsKind (kind.PutPending item serial) = IsDocument item serial
IsKind (kind.AddRow item serial) = IsDocument item serial
IsKind (kind.LinkPending item serial) = IsDocument item serial
IsKind (kind.DropPage item serial) = IsDocument item serial
IsKind _ = ⊤

-- the bytes 8 to 15 of a page
abbrev pub stamp_in : List ℕ → List ℕ
stamp_in bytes = take 8 (drop 8 bytes)

-- an image of 8192 bytes, the record's number as its stamp
pub record IsImage (number : ℕ) (bytes : List ℕ) : Type 0 where
  pub size : length bytes ≡ page_size
  pub stamp : stamp_in bytes ≡ u64_bytes number

pub record IsDelta (front : List ℕ) (start cut : ℕ) (bytes : List ℕ) : Type 0 where
  pub front_size : length front ≡ 8
  pub start_fits : start < 2 ^ 16
  pub cut_fits : cut < 2 ^ 16
  pub size_fits : length bytes < 2 ^ 16

abbrev pub IsEdit : ℕ → Edit → Type 0
IsEdit number (Image bytes) = IsImage number bytes
IsEdit number (Delta front start cut bytes) = IsDelta front start cut bytes

pub record IsChange (number : ℕ) (c : Change) : Type 0 where
  pub page : c.page < page_limit
  pub edit : IsEdit number c.edit

-- the record has an encoding: its numbers fit, and a page is once among its changes
pub record IsRecord (r : Record) : Type 0 where
  pub number : r.number < 2 ^ 64
  pub xid : r.xid < 2 ^ 32
  pub kind : IsKind r.kind
  pub count : length r.changes < 2 ^ 8
  pub changes : AllByRecursion (IsChange r.number) r.changes
  pub once : Rising (λ c d. c.page ≢ d.page) r.changes
