-- The number at the front of a text, computed.
use Rattle.std.specs.Prelude.{ℕ, zero, suc, ◌+◌, List, [], ◌∷◌, drop, Bool, true, false, not, if◌then◌else◌, ◌==◌, ◌||◌}
use Rattle.std.specs.Prelude.{◌&&◌, nat_lt, Option, Some, None}
use Rattle.std.specs.List.{prefix_len}
use Rattle.std.specs.Char.{is_ascii_digit}
use Rattle.ts_parser.specs.declared.kinds.TokenType.{TokenType}
use Rattle.ts_parser.specs.declared.kinds.TokenType.TheVariants.{Sfloat, Version, Float, Int, Uint}
use Rattle.ts_parser.specs.declared.forms.Form.{Form}
use Rattle.ts_parser.specs.Letters.{is_word_byte, begins_with}
use Rattle.ts_parser.specs.Rows.{row_len}
use Rattle.ts_parser.specs.Forms.{form}

abbrev pub is_sign : ℕ → Bool
is_sign c = (c == 43) || (c == 45)

-- groups of digits with dots between them
abbrev pub groups_len : List ℕ → ℕ
groups_len u = row_len is_ascii_digit is_ascii_digit 46 u

-- whether n bytes are one group
abbrev pub is_one_group : List ℕ → ℕ → Bool
is_one_group u n = n == prefix_len is_ascii_digit u

-- whether n bytes are two groups
abbrev pub is_two_groups : List ℕ → ℕ → Bool
is_two_groups u n =
    n == suc (prefix_len is_ascii_digit u + prefix_len is_ascii_digit (drop (suc (prefix_len is_ascii_digit u)) u))

abbrev pub sign_len : List ℕ → ℕ
sign_len u = if begins_with is_sign u then 1 else 0

abbrev pub with_digits : ℕ → ℕ → ℕ
with_digits n zero = 0
with_digits n (suc d) = n + suc d

-- the exponent at the front, 0 where none is
abbrev pub exponent_len : List ℕ → ℕ
exponent_len [] = 0
exponent_len (c ∷ u) = if (c == 69) || (c == 101)
    then with_digits (1 + sign_len u) (prefix_len is_ascii_digit (drop (sign_len u) u)) else 0

abbrev pub ends_number : List ℕ → Bool
ends_number [] = true
ends_number (c ∷ r) = not (is_word_byte c) && not ((c == 46) && begins_with is_ascii_digit r)

-- the number of n bytes at the front, if it ends there
abbrev pub ended : List ℕ → ℕ → TokenType → Option Form
ended u n k = if ends_number (drop n u) then Some (form k n) else None

-- a number of digits and dots alone, n bytes
abbrev pub plain_number : Bool → List ℕ → ℕ → Option Form
plain_number signed u n = if is_one_group u n then ended u n (if signed then Int else Uint) else
    (if is_two_groups u n then ended u n Float else (if signed then None else ended u n Version))

-- whether n bytes are a mantissa with an exponent after it
abbrev pub is_scientific : List ℕ → ℕ → Bool
is_scientific u n = (is_one_group u n || is_two_groups u n) && nat_lt 0 (exponent_len (drop n u))

-- the number at the front, whose groups of digits have n bytes
abbrev pub number_of : Bool → List ℕ → ℕ → Option Form
number_of signed u n =
    if is_scientific u n then ended u (n + exponent_len (drop n u)) Sfloat else plain_number signed u n

-- the number at the front, without its sign
abbrev pub number_front : Bool → List ℕ → Option Form
number_front signed u = if begins_with is_ascii_digit u then number_of signed u (groups_len u) else None

abbrev pub is_free : Option ℕ → Bool
is_free None = true
is_free (Some c) = not (is_word_byte c)

abbrev pub with_sign : Option Form → Option Form
with_sign None = None
with_sign (Some f) = Some (form f.kind (suc f.length))

abbrev pub number_at : Option ℕ → List ℕ → Option Form
number_at before [] = None
number_at before (c ∷ u) =
    if is_sign c then (if is_free before then with_sign (number_front true u) else None) else number_front false (c ∷ u)
