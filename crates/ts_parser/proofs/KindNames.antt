-- A type is known by its name, and by its number.
use Rattle.std.proofs.Common.{◌≡◌, ℕ, List, codes, bytes_eq, ◌==◌, if◌then◌else◌, refl, sym, ap, ◌∙◌}
use Rattle.ts_parser.specs.declared.kinds.TokenType.{TokenType}
use Rattle.ts_parser.specs.declared.kinds.TokenType.TheVariants.{Asciiword, Word, Numword, Sfloat, Version}
use Rattle.ts_parser.specs.declared.kinds.TokenType.TheVariants.{HwordNumpart, HwordPart, HwordAsciipart, Blank}
use Rattle.ts_parser.specs.declared.kinds.TokenType.TheVariants.{Numhword, Asciihword, Hword, Float, Int, Uint}
use Rattle.ts_parser.specs.Kinds.{type_number, type_name, NamesTellTypes, NumbersTellTypes}

abbrev named : List ℕ → TokenType
named w = if bytes_eq w (codes "asciiword") then Asciiword else (if bytes_eq w (codes "word") then Word
    else (if bytes_eq w (codes "numword") then Numword else (if bytes_eq w (codes "sfloat") then Sfloat
    else (if bytes_eq w (codes "version") then Version else (if bytes_eq w (codes "hword_numpart") then HwordNumpart
    else (if bytes_eq w (codes "hword_part") then HwordPart else (if bytes_eq w (codes "hword_asciipart") then
    HwordAsciipart else (if bytes_eq w (codes "blank") then Blank else (if bytes_eq w (codes "numhword") then Numhword
    else (if bytes_eq w (codes "asciihword") then Asciihword else (if bytes_eq w (codes "hword") then Hword
    else (if bytes_eq w (codes "float") then Float else (if bytes_eq w (codes "int") then Int else Uint)))))))))))))

named_is : (k : TokenType) → named (type_name k) ≡ k
named_is Asciiword = refl
named_is Word = refl
named_is Numword = refl
named_is Sfloat = refl
named_is Version = refl
named_is HwordNumpart = refl
named_is HwordPart = refl
named_is HwordAsciipart = refl
named_is Blank = refl
named_is Numhword = refl
named_is Asciihword = refl
named_is Hword = refl
named_is Float = refl
named_is Int = refl
named_is Uint = refl

abbrev numbered : ℕ → TokenType
numbered i = if i == 1 then Asciiword else (if i == 2 then Word else (if i == 3 then Numword else (if i == 7 then Sfloat
    else (if i == 8 then Version else (if i == 9 then HwordNumpart else (if i == 10 then HwordPart else (if i == 11
    then HwordAsciipart else (if i == 12 then Blank else (if i == 15 then Numhword else (if i == 16 then Asciihword
    else (if i == 17 then Hword else (if i == 20 then Float else (if i == 21 then Int else Uint)))))))))))))

numbered_is : (k : TokenType) → numbered (type_number k) ≡ k
numbered_is Asciiword = refl
numbered_is Word = refl
numbered_is Numword = refl
numbered_is Sfloat = refl
numbered_is Version = refl
numbered_is HwordNumpart = refl
numbered_is HwordPart = refl
numbered_is HwordAsciipart = refl
numbered_is Blank = refl
numbered_is Numhword = refl
numbered_is Asciihword = refl
numbered_is Hword = refl
numbered_is Float = refl
numbered_is Int = refl
numbered_is Uint = refl

pub names_tell : NamesTellTypes
names_tell a b e = sym (named_is a) ∙ ap named e ∙ named_is b

pub numbers_tell : NumbersTellTypes
numbers_tell a b e = sym (numbered_is a) ∙ ap numbered e ∙ numbered_is b
