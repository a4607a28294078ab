-- The types of tokens, their numbers and their names.
use Rattle.std.specs.Prelude.{◌≡◌, ℕ, Bool, true, false, List, codes}
use Rattle.ts_parser.specs.declared.kinds.TokenType.{TokenType}
use Rattle.ts_parser.specs.declared.kinds.TokenType.TheVariants.{Asciiword, Word, Numword, Sfloat, Version}
use Rattle.ts_parser.specs.declared.kinds.TokenType.TheVariants.{HwordNumpart, HwordPart, HwordAsciipart, Blank}
use Rattle.ts_parser.specs.declared.kinds.TokenType.TheVariants.{Numhword, Asciihword, Hword, Float, Int, Uint}

abbrev pub type_number : TokenType → ℕ
type_number Asciiword = 1
type_number Word = 2
type_number Numword = 3
type_number Sfloat = 7
type_number Version = 8
type_number HwordNumpart = 9
type_number HwordPart = 10
type_number HwordAsciipart = 11
type_number Blank = 12
type_number Numhword = 15
type_number Asciihword = 16
type_number Hword = 17
type_number Float = 20
type_number Int = 21
type_number Uint = 22

abbrev pub type_name : TokenType → List ℕ
type_name Asciiword = codes "asciiword"
type_name Word = codes "word"
type_name Numword = codes "numword"
type_name Sfloat = codes "sfloat"
type_name Version = codes "version"
type_name HwordNumpart = codes "hword_numpart"
type_name HwordPart = codes "hword_part"
type_name HwordAsciipart = codes "hword_asciipart"
type_name Blank = codes "blank"
type_name Numhword = codes "numhword"
type_name Asciihword = codes "asciihword"
type_name Hword = codes "hword"
type_name Float = codes "float"
type_name Int = codes "int"
type_name Uint = codes "uint"

-- whether the parts of such a token are given after it
abbrev pub has_parts : TokenType → Bool
has_parts Numhword = true
has_parts Asciihword = true
has_parts Hword = true
has_parts k = false

-- two types never share a name
abbrev pub NamesTellTypes : Type 0
NamesTellTypes = (a b : TokenType) → type_name a ≡ type_name b → a ≡ b

-- nor a number
abbrev pub NumbersTellTypes : Type 0
NumbersTellTypes = (a b : TokenType) → type_number a ≡ type_number b → a ≡ b
