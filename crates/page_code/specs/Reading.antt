-- A page, read from left to right, with the first fault that is met.
use Rattle.std.specs.Prelude.{ℕ, ◌-◌, List, length, Option, Some, None, Result, Ok, Err, nat_le, ◌==◌, if◌then◌else◌}
use Rattle.page_types.specs.Numbers.{most_body}
use Rattle.page_types.specs.Fields.{◌>>=◌, number_at, bytes_at, tested}
use Rattle.page_types.specs.declared.page.Page.{Page}
use Rattle.page_types.specs.declared.page.Body.{Body}
use Rattle.page_code.specs.declared.form.Form.{Form}
use Rattle.page_code.specs.Fields.{Read, zeros_at}
use Rattle.page_code.specs.Forms.{deleted_kind, form_with, count_fits, right_fits, fits_free}
use Rattle.page_code.specs.Bodies.{whole_body_at, in_part}

-- the kind, which is refused above the last one
unfoldable pub kind_at : List ℕ → Read ℕ
kind_at bytes = do
  kind ← number_at 1 bytes
  tested (nat_le kind.0 deleted_kind) bytes kind

abbrev pub known_at : List ℕ → Option Form → List ℕ → Read Form
known_at bytes (Some form) rest = Ok (form, rest)
known_at bytes None rest = Err (length bytes)

-- the form of a page of this kind, by the kind before its deletion
unfoldable pub was_at : ℕ → List ℕ → Read Form
was_at kind bytes = do
  was ← number_at 1 bytes
  known_at bytes (form_with kind was.0) was.1

unfoldable pub form_at : List ℕ → Read Form
form_at bytes = do
  kind ← kind_at bytes
  was_at kind.0 kind.1

unfoldable pub count_at : Form → List ℕ → Read ℕ
count_at form bytes = do
  n ← number_at 2 bytes
  tested (count_fits form n.0) bytes n

unfoldable pub right_at : Form → List ℕ → Read ℕ
right_at form bytes = do
  n ← number_at 4 bytes
  tested (right_fits form n.0) bytes n

unfoldable pub stamp_at : Form → List ℕ → Read ℕ
stamp_at form bytes = do
  n ← number_at 8 bytes
  tested (fits_free form n.0) bytes n

-- the used length, and the zero gap after it
unfoldable pub used_length_at : List ℕ → Read ℕ
used_length_at bytes = do
  n ← number_at 2 bytes
  used ← tested (nat_le n.0 most_body) bytes n
  rest ← zeros_at 6 used.1
  Ok (used.0, rest)

-- a body of so many bytes, and the zeros after it up to the end
unfoldable pub framed_at : Form → ℕ → ℕ → ℕ → List ℕ → Read Body
framed_at form right count used bytes = do
  text ← bytes_at used bytes
  body ← in_part bytes text.0 (whole_body_at form right count text.0)
  rest ← zeros_at (most_body - used) text.1
  Ok (body, rest)

unfoldable pub front_at : List ℕ → Read Page
front_at bytes = do
  form ← form_at bytes
  count ← count_at form.0 form.1
  right ← right_at form.0 count.1
  stamp ← stamp_at form.0 right.1
  used ← used_length_at stamp.1
  body ← framed_at form.0 right.0 count.0 used.0 used.1
  Ok (record { right = right.0; stamp = stamp.0; body = body.0 }, body.1)

-- a page, all of the bytes: surplus bytes are refused
unfoldable pub page_at : List ℕ → Result Page ℕ
page_at bytes = do
  page ← front_at bytes
  if length page.1 == 0 then Ok page.0 else Err (length page.1)
