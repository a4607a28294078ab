-- What a change makes of a page's bytes.
use Rattle.std.specs.Prelude.{ℕ, ◌+◌, ◌≤◌, List, ◌++◌, length, take, drop, ⊤}
use Rattle.byteorder.specs.Endian.{little_number}
use Rattle.page_types.specs.Numbers.{front_size, most_body}
use Rattle.page_types.specs.Encoding.{framed}
use Rattle.page_types.specs.declared.record.Edit.{Edit}
use Rattle.page_types.specs.declared.record.Edit.TheVariants.{Image, Delta}

-- the used length that bytes of a page have at the bytes 16 and 17
unfoldable pub used_in : List ℕ → ℕ
used_in bytes = little_number 2 (drop 16 bytes)

-- the bytes of the body, as many as are used
unfoldable pub body_in : List ℕ → List ℕ
body_in bytes = take (used_in bytes) (drop front_size bytes)

-- other bytes in place of those from start on, `cut` of them
abbrev pub spliced : ℕ → ℕ → List ℕ → List ℕ → List ℕ
spliced start cut bytes body = take start body ++ (bytes ++ drop (start + cut) body)

-- the bytes of a page after an edit by the record with this number
unfoldable pub edited : ℕ → Edit → List ℕ → List ℕ
edited number (Image bytes) old = bytes
edited number (Delta front start cut bytes) old = framed front number (spliced start cut bytes (body_in old))

-- A delta can be made where it lies within the used length, which is that of a page, and so is the new one.
abbrev pub CanEdit : Edit → List ℕ → Type 0
CanEdit (Image bytes) old = ⊤
CanEdit (Delta front start cut bytes) old =
    (used_in old ≤ most_body) × (start + cut ≤ used_in old) × (used_in old + length bytes ≤ most_body + cut)
