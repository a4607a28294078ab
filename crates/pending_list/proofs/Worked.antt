-- Worked rows: how many of the longest keys a page takes, and how many short rows.
use Rattle.std.proofs.Common.{◌≡◌, ℕ, zero, suc, ◌+◌, ◌*◌, ◌<◌, ◌≤◌, List, [], ◌∷◌, length, replicate, refl, arith}
use Rattle.std.specs.List.{flat_map}
use Rattle.std.proofs.lemmas.List.{length-append}
use Rattle.page_types.specs.Numbers.{most_body}
use Rattle.page_types.specs.Encoding.{key_field, row_bytes, body_bytes}
use Rattle.page_types.specs.declared.page.Page.{Page}
use Rattle.page_types.specs.declared.page.Row.{Row}
use Rattle.page_types.specs.declared.page.Body.TheVariants as body
use Rattle.page_types.proofs.BodySizes.{length-key_field, length-row_bytes}
use Rattle.pending_list.specs.Packing.{row_of, row_length}
use Rattle.pending_list.specs.Adding.{with_row, HasNoRoom}
use Rattle.pending_list.proofs.PackedRows.{fields}
use Rattle.pending_list.proofs.AddedRows.{added_length}

fields_more : (key : List ℕ) (keys : List (List ℕ))
    → length (fields (key ∷ keys)) ≡ 2 + length key + length (fields keys)
fields_more key keys = omega (arith, length-append (key_field key) (fields keys), length-key_field key)

-- three of the longest keys, of 2047 bytes, have room on a page, and a fourth has none
three_fit : (a b c d : List ℕ) → length a ≡ 2047 → length b ≡ 2047 → length c ≡ 2047 → length d ≡ 2047
    → (row_length (a ∷ b ∷ c ∷ []) ≤ most_body) × (most_body < row_length (a ∷ b ∷ c ∷ d ∷ []))
three_fit a b c d p q r s = (
  omega (arith, p, q, r, fields_more a (b ∷ c ∷ []), fields_more b (c ∷ []), fields_more c []),
  omega (
    arith,
    p,
    q,
    r,
    s,
    fields_more a (b ∷ c ∷ d ∷ []),
    fields_more b (c ∷ d ∷ []),
    fields_more c (d ∷ []),
    fields_more d [],
  ),
)

-- a page with so many rows of one key of two bytes each, as of the word `a`
abbrev page_with : ℕ → Row → Page
page_with n r = record { right = 0; stamp = 0; body = body.Pending (replicate n r) }

rows_of_ten : (n item : ℕ) (key : List ℕ) → length key ≡ 2
    → length (flat_map row_bytes (replicate n (row_of item (key ∷ [])))) ≡ n * 10
rows_of_ten zero item key e = omega arith
rows_of_ten (suc n) item key e =
    let r : Row = row_of item (key ∷ []) in
    omega (
      arith,
      e,
      length-append (row_bytes r) (flat_map row_bytes (replicate n r)),
      length-row_bytes r,
      fields_more key [],
      rows_of_ten n item key e,
    )

-- a page with 815 of them takes one more, and one with 816 takes none
takes_last : (n item : ℕ) (key : List ℕ) → n ≡ 815 → length key ≡ 2
    → length (body_bytes (with_row (page_with n (row_of item (key ∷ []))) item (key ∷ []))) ≤ most_body
takes_last n item key is e =
    omega (
      arith,
      is,
      e,
      added_length (page_with n (row_of item (key ∷ []))) item (key ∷ []) (replicate n (row_of item (key ∷ [])), refl),
      rows_of_ten n item key e,
      fields_more key [],
    )

takes_none : (n item : ℕ) (key : List ℕ) → n ≡ 816 → length key ≡ 2
    → HasNoRoom (page_with n (row_of item (key ∷ []))) item (key ∷ [])
takes_none n item key is e =
    omega (
      arith,
      is,
      e,
      added_length (page_with n (row_of item (key ∷ []))) item (key ∷ []) (replicate n (row_of item (key ∷ [])), refl),
      rows_of_ten n item key e,
      fields_more key [],
    )
