-- An item list read from left to right, with the first fault that is met: the number of bytes that were left before
-- the field that is refused, 0 where the bytes end within it.
use Rattle.std.specs.Prelude.{ℕ, zero, suc, ◌+◌, ◌-◌, ◌*◌, ◌&&◌, nat_lt, cond, List, [], ◌∷◌, length, Option, Some}
use Rattle.std.specs.Prelude.{None, Result, Ok, Err}
use Rattle.page_types.specs.Numbers.{item_limit}
use Rattle.page_types.specs.Fields.{◌>>=◌}

-- the bytes after the first that is below 128
abbrev pub number_end : List ℕ → Option (List ℕ)
number_end [] = None
number_end (b ∷ bs) = cond (nat_lt b 128) (Some bs) (number_end bs)

-- a number with seven low bits more; it has the fewest bytes only where the higher ones are not all 0
abbrev pub raised : ℕ → Option ℕ → Option ℕ
raised low None = None
raised low (Some zero) = None
raised low (Some (suc n)) = Some (low + 128 * suc n)

abbrev pub with_low : ℕ → Option (Option ℕ × List ℕ) → Option (Option ℕ × List ℕ)
with_low low None = None
with_low low (Some x) = Some (raised low x.0, x.1)

-- a row of bytes that is no number, and the bytes after it
abbrev pub no_number : Option (List ℕ) → Option (Option ℕ × List ℕ)
no_number None = None
no_number (Some rest) = Some (None, rest)

-- The varbyte that the bytes begin with, and the bytes after it; nothing where they end within it.
-- It is no number where it has more than the fewest bytes, or more than so many.
abbrev pub number_within : ℕ → List ℕ → Option (Option ℕ × List ℕ)
number_within zero bytes = no_number (number_end bytes)
number_within (suc most) [] = None
number_within (suc most) (b ∷ bs) = cond (nat_lt b 128) (Some (Some b, bs)) (with_low (b - 128) (number_within most bs))

-- the next item, where the number of a difference is at hand
abbrev pub item_with : ℕ → ℕ → Option (Option ℕ × List ℕ) → Result (ℕ × List ℕ) ℕ
item_with last left None = Err 0
item_with last left (Some (None, rest)) = Err left
item_with last left (Some (Some n, rest)) =
    cond (nat_lt 0 n && nat_lt (last + n) item_limit) (Ok (last + n, rest)) (Err left)

-- the next item after the item `last`, and the bytes after it
unfoldable pub item_at : ℕ → List ℕ → Result (ℕ × List ℕ) ℕ
item_at last bytes = item_with last (length bytes) (number_within 5 bytes)

abbrev pub in_front : ℕ → Result (List ℕ × List ℕ) ℕ → Result (List ℕ × List ℕ) ℕ
in_front item (Ok x) = Ok (item ∷ x.0, x.1)
in_front item (Err left) = Err left

-- the items after the item `last`, at most so many, up to the end of the bytes; and the bytes after them
abbrev pub items_within : ℕ → ℕ → List ℕ → Result (List ℕ × List ℕ) ℕ
items_within zero last bytes = Ok ([], bytes)
items_within (suc most) last [] = Ok ([], [])
items_within (suc most) last (b ∷ bs) = do
  x ← item_at last (b ∷ bs)
  in_front x.0 (items_within most x.0 x.1)

-- the items of a list, all of the bytes: no list has more items than bytes
unfoldable pub items_read : List ℕ → Result (List ℕ) ℕ
items_read bytes = do
  x ← items_within (length bytes) 0 bytes
  Ok x.0

-- the last of the items, or another number where there is none
abbrev pub last_or : ℕ → List ℕ → ℕ
last_or last [] = last
last_or last (i ∷ is) = last_or i is
