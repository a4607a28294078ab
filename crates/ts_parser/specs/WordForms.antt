-- The run or the hyphen word at the front of a text, computed.
use Rattle.std.specs.Prelude.{ℕ, List, take, Bool, if◌then◌else◌, ◌&&◌, nat_lt}
use Rattle.std.specs.List.{list_all, list_any, prefix_len}
use Rattle.std.specs.Char.{is_ascii_digit, is_ascii_alphabetic}
use Rattle.ts_parser.specs.declared.kinds.TokenType.{TokenType}
use Rattle.ts_parser.specs.declared.kinds.TokenType.TheVariants.{Asciiword, Word, Numword, HwordNumpart, HwordPart}
use Rattle.ts_parser.specs.declared.kinds.TokenType.TheVariants.{HwordAsciipart, Blank, Numhword, Asciihword, Hword}
use Rattle.ts_parser.specs.declared.kinds.TokenType.TheVariants.{Uint}
use Rattle.ts_parser.specs.declared.forms.Form.{Form}
use Rattle.ts_parser.specs.Letters.{is_word_letter, is_word_byte, begins_with}
use Rattle.ts_parser.specs.Rows.{begins_piece, row_len}
use Rattle.ts_parser.specs.Forms.{form}

abbrev pub run_len : List ℕ → ℕ
run_len u = prefix_len is_word_byte u

abbrev pub run_kind : List ℕ → TokenType
run_kind w = if list_all is_ascii_digit w then Uint
    else (if list_any is_ascii_digit w then Numword else (if list_all is_ascii_alphabetic w then Asciiword else Word))

abbrev pub part_kind : List ℕ → TokenType
part_kind w = if list_any is_ascii_digit w then HwordNumpart
    else (if list_all is_ascii_alphabetic w then HwordAsciipart else HwordPart)

abbrev pub whole_kind : List ℕ → TokenType
whole_kind w = if list_any is_ascii_digit w then Numhword else (if list_any (nat_lt 127) w then Hword else Asciihword)

-- a run with a letter is at the front
abbrev pub begins_link : List ℕ → Bool
begins_link u = begins_piece is_word_byte is_word_letter u

-- how long the row of links is that has begun
abbrev pub links_len : List ℕ → ℕ
links_len u = row_len is_word_byte is_word_letter 45 u

abbrev pub word_form : List ℕ → Form
word_form u = if begins_link u && nat_lt (run_len u) (links_len u)
    then form (whole_kind (take (links_len u) u)) (links_len u) else form (run_kind (take (run_len u) u)) (run_len u)

-- a part of a hyphen word, or the hyphen between two
abbrev pub part_form : List ℕ → Form
part_form u = if begins_with is_word_byte u then form (part_kind (take (run_len u) u)) (run_len u) else form Blank 1
