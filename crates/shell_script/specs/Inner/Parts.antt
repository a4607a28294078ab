-- The words of a text, and the types that it names.
use Rattle.std.specs.Prelude.{◌≡◌, ℕ, zero, suc, ◌==◌, if◌then◌else◌, List, []}
use Rattle.std.specs.Prelude.{◌∷◌, length, map, Option, Some, None, bytes_eq}
use Rattle.std.specs.List.{join_with_byte}
use Rattle.ts_parser.specs.declared.kinds.TokenType.{TokenType}
use Rattle.ts_parser.specs.declared.kinds.TokenType.TheVariants.{Asciiword, Word, Numword, Sfloat, Version}
use Rattle.ts_parser.specs.declared.kinds.TokenType.TheVariants.{HwordNumpart, HwordPart, HwordAsciipart, Blank}
use Rattle.ts_parser.specs.declared.kinds.TokenType.TheVariants.{Numhword, Asciihword, Hword, Float, Int, Uint}
use Rattle.ts_parser.specs.Kinds.{type_name}
use Rattle.shell_script.specs.StepsOf.{is_blank, word_of}

-- the words of a text between blanks; the first k bytes are within a word
abbrev pub words_from : ℕ → List ℕ → List (List ℕ)
words_from k [] = []
words_from (suc k) (b ∷ bytes) = words_from k bytes
words_from zero (b ∷ bytes) =
    if is_blank b then words_from 0 bytes else (b ∷ word_of bytes) ∷ words_from (length (word_of bytes)) bytes

abbrev pub words_in : List ℕ → List (List ℕ)
words_in text = words_from 0 text

-- ── types ──
abbrev pub comma : ℕ
comma = 44

-- the bytes before the first comma
abbrev pub part_of : List ℕ → List ℕ
part_of [] = []
part_of (b ∷ bytes) = if b == comma then [] else b ∷ part_of bytes

abbrev pub all_types : List TokenType
all_types = Asciiword ∷ Word ∷ Numword ∷ Sfloat ∷ Version ∷ HwordNumpart ∷ HwordPart ∷ HwordAsciipart ∷ Blank
    ∷ Numhword ∷ Asciihword ∷ Hword ∷ Float ∷ Int ∷ Uint ∷ []

-- the first of these types that has this name
abbrev pub named_among : List TokenType → List ℕ → Option TokenType
named_among [] name = None
named_among (k ∷ ks) name = if bytes_eq (type_name k) name then Some k else named_among ks name

abbrev pub type_named : List ℕ → Option TokenType
type_named name = named_among all_types name

abbrev pub with_type : Option TokenType → List TokenType → List TokenType
with_type None ks = ks
with_type (Some k) ks = k ∷ ks

-- the types that a text names, with commas between them; the first k bytes are within a name
abbrev pub types_from : ℕ → List ℕ → List TokenType
types_from k [] = []
types_from (suc k) (b ∷ bytes) = types_from k bytes
types_from zero (b ∷ bytes) =
    with_type (type_named (part_of (b ∷ bytes))) (types_from (length (part_of (b ∷ bytes))) bytes)

abbrev pub types_in : List ℕ → List TokenType
types_in text = types_from 0 text

-- the text names types alone, or nothing
abbrev pub IsTypes : List ℕ → Type 0
IsTypes text = text ≡ join_with_byte comma (map type_name (types_in text))
