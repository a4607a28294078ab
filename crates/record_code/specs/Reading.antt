-- A record, read from left to right, with the first fault that is met.
use Rattle.std.specs.Prelude.{ℕ, zero, suc, ◌+◌, ◌-◌, Bool, ◌&&◌, List, [], ◌∷◌, ◌++◌, length, take, drop, Option, Some}
use Rattle.std.specs.Prelude.{None, Result, Ok, Err, nat_lt, ◌==◌, if◌then◌else◌}
use Rattle.std.specs.List.{slice_get, list_any}
use Rattle.byteorder.specs.Endian.{little_number}
use Rattle.page_types.specs.Numbers.{page_size, page_limit, item_limit}
use Rattle.page_types.specs.declared.record.Record.{Record}
use Rattle.page_types.specs.declared.record.Change.{Change}
use Rattle.page_types.specs.declared.record.Edit.{Edit}
use Rattle.page_types.specs.declared.record.Edit.TheVariants.{Image, Delta}
use Rattle.page_types.specs.declared.record.Kind.{Kind}
use Rattle.page_types.specs.declared.record.Kind.TheVariants as kind
use Rattle.page_types.specs.Fields.{◌>>=◌, number_at, bytes_at}
use Rattle.record_code.specs.Fields.{Read, byte_at}

-- the kinds in the order of their numbers, which begin at 1, with fields of 0
abbrev pub kinds : List Kind
kinds =
    kind.Create ∷ kind.Begin ∷ kind.Commit 0 ∷ kind.Abort ∷ kind.Checkpoint 0 ∷ kind.PlaceHead 0 0
    ∷ kind.PutOverflow 0 0 ∷ kind.MarkDeleted 0 0
    ∷ kind.PutPending 0 0 ∷ kind.AddRow 0 0 ∷ kind.LinkPending 0 0 ∷ kind.Shift ∷ kind.AddItems ∷ kind.MakeTree
    ∷ kind.AddPostings ∷ kind.GrowRoot
    ∷ kind.Split ∷ kind.RemoveItems ∷ kind.DeletePost ∷ kind.DropPage 0 0 ∷ kind.FreeSlots ∷ []

abbrev pub kind_with_number : ℕ → Option Kind
kind_with_number zero = None
kind_with_number (suc k) = slice_get kinds k

-- the byte of a kind, which is refused where no kind has this number
abbrev pub known_at : List ℕ → Option Kind → List ℕ → Read Kind
known_at bytes (Some k) rest = Ok (k, rest)
known_at bytes None rest = Err (length bytes)

abbrev pub kind_at : List ℕ → Read Kind
kind_at [] = Err 0
kind_at (b ∷ rest) = known_at (b ∷ rest) (kind_with_number b) rest

-- an item, which is refused where it is none
unfoldable pub item_at : List ℕ → Read ℕ
item_at bytes = do
  item ← number_at 4 bytes
  if nat_lt item.0 item_limit then Ok item else Err (length bytes)

-- a document's item and serial
unfoldable pub document_at : List ℕ → Read (ℕ × ℕ)
document_at bytes = do
  item ← item_at bytes
  serial ← number_at 8 item.1
  Ok ((item.0, serial.0), serial.1)

-- a document, as the fields of a kind
abbrev pub named_at : (ℕ → ℕ → Kind) → List ℕ → Read Kind
named_at make bytes = do
  document ← document_at bytes
  Ok (make document.0.0 document.0.1, document.1)

-- a kind with its fields
unfoldable pub fields_at : Kind → List ℕ → Read Kind
fields_at (kind.Commit _) bytes = do
  commit ← number_at 4 bytes
  Ok (kind.Commit commit.0, commit.1)
fields_at (kind.Checkpoint _) bytes = do
  redo ← number_at 8 bytes
  Ok (kind.Checkpoint redo.0, redo.1)
fields_at (kind.PlaceHead _ _) bytes = named_at (λ i s. kind.PlaceHead i s) bytes
fields_at (kind.PutOverflow _ _) bytes = named_at (λ i s. kind.PutOverflow i s) bytes
fields_at (kind.MarkDeleted _ _) bytes = named_at (λ i s. kind.MarkDeleted i s) bytes
fields_at (kind.PutPending _ _) bytes = named_at (λ i s. kind.PutPending i s) bytes
fields_at (kind.AddRow _ _) bytes = named_at (λ i s. kind.AddRow i s) bytes
fields_at (kind.LinkPending _ _) bytes = named_at (λ i s. kind.LinkPending i s) bytes
fields_at (kind.DropPage _ _) bytes = named_at (λ i s. kind.DropPage i s) bytes
fields_at k bytes = Ok (k, bytes)

-- the page is among these changes
abbrev pub stands : ℕ → List Change → Bool
stands page changes = list_any (λ c. c.page == page) changes

-- a page's number, which is refused where it is none and where it is among the changes before
unfoldable pub page_at : List Change → List ℕ → Read ℕ
page_at before bytes = do
  page ← number_at 4 bytes
  if nat_lt page.0 page_limit then (if stands page.0 before then Err (length bytes) else Ok page)
      else Err (length bytes)

-- an image, which is refused where its bytes 8 to 15 are not the record's number
unfoldable pub image_at : ℕ → List ℕ → Read Edit
image_at number bytes = do
  image ← bytes_at page_size bytes
  if little_number 8 (drop 8 image.0) == number then Ok (Image image.0, image.1) else Err (length bytes)

unfoldable pub delta_at : List ℕ → Read Edit
delta_at bytes = do
  front ← bytes_at 8 bytes
  start ← number_at 2 front.1
  cut ← number_at 2 start.1
  size ← number_at 2 cut.1
  new ← bytes_at size.0 size.1
  Ok (Delta front.0 start.0 cut.0 new.0, new.1)

-- the byte 0 and an image, or the byte 1 and a delta
abbrev pub edit_at : ℕ → List ℕ → Read Edit
edit_at number [] = Err 0
edit_at number (zero ∷ rest) = image_at number rest
edit_at number (suc zero ∷ rest) = delta_at rest
edit_at number (suc (suc b) ∷ rest) = Err (suc (length rest))

-- a change after others
unfoldable pub change_at : ℕ → List Change → List ℕ → Read Change
change_at number before bytes = do
  page ← page_at before bytes
  edit ← edit_at number page.1
  Ok (record { page = page.0; edit = edit.0 }, edit.1)

-- so many changes after others, and these before them
unfoldable pub changes_at : ℕ → ℕ → List Change → List ℕ → Read (List Change)
changes_at number zero before bytes = Ok (before, bytes)
changes_at number (suc k) before bytes = do
  change ← change_at number before bytes
  changes_at number k (before ++ change.0 ∷ []) change.1

-- what is after a record's length
unfoldable pub rest_at : List ℕ → Read Record
rest_at bytes = do
  kind ← kind_at bytes
  xid ← number_at 4 kind.1
  number ← number_at 8 xid.1
  fields ← fields_at kind.0 number.1
  count ← byte_at fields.1
  changes ← changes_at number.0 count.0 [] count.1
  Ok (record { number = number.0; xid = xid.0; kind = fields.0; changes = changes.0 }, changes.1)

-- the bytes that are there of a rest of this length, all of them: surplus bytes are refused, and missing ones
unfoldable pub whole_at : ℕ → List ℕ → Result Record ℕ
whole_at size bytes = do
  rest ← rest_at bytes
  if (length rest.1 == 0) && (length bytes == size) then Ok rest.0 else Err (length rest.1)

-- the length of a whole record beside it; a fault by its place, where the bytes end at this one
abbrev pub placed : ℕ → ℕ → Result Record ℕ → Result (Record × ℕ) ℕ
placed size end (Ok r) = Ok (r, 4 + size)
placed size end (Err left) = Err (end - left)

-- the bytes that are there of a rest of this length
abbrev pub record_in : ℕ → List ℕ → Result (Record × ℕ) ℕ
record_in size bytes = placed size (4 + length bytes) (whole_at size bytes)

-- The first record and its length, or the place of the first fault: the first byte of the field that is refused, or
-- where the bytes end within a field: the end of the record, or of the bytes where they end first.
unfoldable pub record_at : List ℕ → Result (Record × ℕ) ℕ
record_at bytes = if nat_lt (length bytes) 4 then Err (length bytes)
    else record_in (little_number 4 bytes) (take (little_number 4 bytes) (drop 4 bytes))
