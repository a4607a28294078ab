-- Fields that are on pages, read from the front of the bytes: a value and the bytes after it, or a fault.
-- A fault is how many bytes are left before the field that is refused, and 0 where they end within a field.
use Rattle.std.specs.Prelude.{ℕ, zero, suc, Bool, false, ◌&&◌, ◌||◌, List, [], ◌∷◌, ◌++◌, length, Result, Ok, nat_lt}
use Rattle.std.specs.Prelude.{nat_le, ◌==◌}
use Rattle.std.specs.List.{list_all}
use Rattle.std.specs.Ordering.{nat_cmp, is_lt}
use Rattle.std.specs.Cmp.Lexicographic.{slice_cmp}
use Rattle.std.specs.Str.{is_utf8}
use Rattle.page_types.specs.Numbers.{most_key_text}
use Rattle.page_types.specs.Fields.{◌>>=◌, number_at, bytes_at, tested}

abbrev pub Read : Type 0 → Type 0
Read A = Result (A × List ℕ) ℕ

-- a number in four bytes, which is refused where it is not below the limit
unfoldable pub below_at : ℕ → List ℕ → Read ℕ
below_at limit bytes = do
  n ← number_at 4 bytes
  tested (nat_lt n.0 limit) bytes n

abbrev pub are_zeros : List ℕ → Bool
are_zeros bytes = list_all (λ b. b == 0) bytes

-- so many zero bytes, and those after them
unfoldable pub zeros_at : ℕ → List ℕ → Result (List ℕ) ℕ
zeros_at size bytes = do
  gap ← bytes_at size bytes
  tested (are_zeros gap.0) bytes gap.1

abbrev pub is_key_text : List ℕ → Bool
is_key_text text = nat_le 1 (length text) && (nat_le (length text) most_key_text && is_utf8 text)

-- a key is the byte 0 and a lexeme, or the byte 1 alone
abbrev pub is_key : List ℕ → Bool
is_key [] = false
is_key (zero ∷ text) = is_key_text text
is_key (suc zero ∷ rest) = length rest == 0
is_key (suc (suc b) ∷ rest) = false

abbrev pub is_above : List ℕ → List ℕ → Bool
is_above last key = is_lt (slice_cmp nat_cmp last key)

-- bytes after their length
unfoldable pub sized_at : List ℕ → Read (List ℕ)
sized_at bytes = do
  size ← number_at 2 bytes
  bytes_at size.0 size.1

-- a key field, which is refused where it has no key, and where its key is not above the last
unfoldable pub key_at : List ℕ → List ℕ → Read (List ℕ)
key_at last bytes = do
  key ← sized_at bytes
  tested (is_key key.0 && is_above last key.0) bytes key

-- a bound is such a key, or has no bytes where it may lack
unfoldable pub bound_at : Bool → List ℕ → List ℕ → Read (List ℕ)
bound_at may_lack last bytes = do
  bound ← sized_at bytes
  tested ((is_key bound.0 && is_above last bound.0) || (may_lack && (length bound.0 == 0))) bytes bound

-- So many values after others, and these before them. Reading a value knows what the one before it leaves to compare
-- with, and how many come after it.
unfoldable pub each_at : {A M : Type 0} → (M → ℕ → List ℕ → Read A) → (A → M) → M → ℕ → List A → List ℕ → Read (List A)
each_at read mark last zero before bytes = Ok (before, bytes)
each_at read mark last (suc k) before bytes = do
  x ← read last k bytes
  each_at read mark (mark x.0) k (before ++ x.0 ∷ []) x.1
