-- Worked texts.
use Rattle.std.proofs.Common.{◌≡◌, refl, [], ◌∷◌, codes}
use Rattle.ts_parser.specs.TokensOf.{tokens_of}
use Rattle.ts_parser.specs.TokenList.{token}
use Rattle.ts_parser.specs.declared.kinds.TokenType.TheVariants.{Asciiword, Word, Numword, Sfloat, Version}
use Rattle.ts_parser.specs.declared.kinds.TokenType.TheVariants.{HwordNumpart, HwordPart, HwordAsciipart, Blank}
use Rattle.ts_parser.specs.declared.kinds.TokenType.TheVariants.{Numhword, Asciihword, Hword, Float, Int, Uint}

hyphen_word : tokens_of (codes "foo-bar-beta1") ≡ (token Numhword 0 13 ∷ token HwordAsciipart 0 3 ∷ token Blank 3 1
    ∷ token HwordAsciipart 4 3 ∷ token Blank 7 1 ∷ token HwordNumpart 8 5 ∷ [])
hyphen_word = refl

numbers : tokens_of (codes "-1.234e56 -1.234 -1234 1234 8.3.0 beta1 1.2.3a")
    ≡ (token Sfloat 0 9 ∷ token Blank 9 1 ∷ token Float 10 6 ∷ token Blank 16 1 ∷ token Int 17 5 ∷ token Blank 22 1
    ∷ token Uint 23 4 ∷ token Blank 27 1 ∷ token Version 28 5 ∷ token Blank 33 1 ∷ token Numword 34 5 ∷ token Blank 39 1
    ∷ token Uint 40 1 ∷ token Blank 41 1 ∷ token Uint 42 1 ∷ token Blank 43 1 ∷ token Numword 44 2 ∷ [])
numbers = refl

wide_letters : tokens_of (195 ∷ 169 ∷ 116 ∷ 195 ∷ 169 ∷ 32 ∷ 228 ∷ 184 ∷ 173 ∷ 49 ∷ 32 ∷ 120 ∷ 195
    ∷ 169 ∷ 45 ∷ 121 ∷ 32 ∷ 97 ∷ 195 ∷ 169 ∷ 45 ∷ 98 ∷ 49 ∷ 32 ∷ 226 ∷ 130 ∷ 172 ∷ 194 ∷ 160 ∷ [])
    ≡ (token Word 0 5 ∷ token Blank 5 1 ∷ token Numword 6 4 ∷ token Blank 10 1 ∷ token Hword 11 5 ∷ token HwordPart 11 3
    ∷ token Blank 14 1 ∷ token HwordAsciipart 15 1 ∷ token Blank 16 1 ∷ token Numhword 17 6 ∷ token HwordPart 17 3
    ∷ token Blank 20 1 ∷ token HwordNumpart 21 2 ∷ token Blank 23 1 ∷ token Word 24 5 ∷ [])
wide_letters = refl

number_before_hyphens : tokens_of (codes "1e5-foo-bar") ≡ (token Sfloat 0 3 ∷ token Blank 3 1 ∷ token Asciihword 4 7
    ∷ token HwordAsciipart 4 3 ∷ token Blank 7 1 ∷ token HwordAsciipart 8 3 ∷ [])
number_before_hyphens = refl

digits_end_a_hyphen_word : tokens_of (codes "foo-5a-b-7") ≡ (token Numhword 0 8 ∷ token HwordAsciipart 0 3 ∷ token Blank
    3 1 ∷ token HwordNumpart 4 2 ∷ token Blank 6 1 ∷ token HwordAsciipart 7 1 ∷ token Blank 8 1 ∷ token Uint 9 1 ∷ [])
digits_end_a_hyphen_word = refl

signed_version : tokens_of (codes "-1.2.3") ≡ (token Blank 0 1 ∷ token Version 1 5 ∷ [])
signed_version = refl

dots : tokens_of (codes "+1.2.3 1.e5 .5 1..5")
    ≡ (token Blank 0 1 ∷ token Version 1 5 ∷ token Blank 6 1 ∷ token Uint 7 1 ∷ token Blank 8 1 ∷ token Numword 9 2
    ∷ token Blank 11 2 ∷ token Uint 13 1 ∷ token Blank 14 1 ∷ token Uint 15 1 ∷ token Blank 16 2 ∷ token Uint 18 1 ∷ [])
dots = refl

hyphens_and_signs : tokens_of (codes "a-5 --5 a--b-")
    ≡ (token Asciiword 0 1 ∷ token Blank 1 1 ∷ token Uint 2 1 ∷ token Blank 3 2 ∷ token Int 5 2 ∷ token Blank 7 1
    ∷ token Asciiword 8 1 ∷ token Blank 9 2 ∷ token Asciiword 11 1 ∷ token Blank 12 1 ∷ [])
hyphens_and_signs = refl

exponents : tokens_of (codes "1e5e3 -1e+5 1e+") ≡ (token Numword 0 5 ∷ token Blank 5 1 ∷ token Sfloat 6 5
    ∷ token Blank 11 1 ∷ token Numword 12 2 ∷ token Blank 14 1 ∷ [])
exponents = refl

last_groups : tokens_of (codes "1.1.1e5") ≡ (token Uint 0 1 ∷ token Blank 1 1 ∷ token Sfloat 2 5 ∷ [])
last_groups = refl

nothing : tokens_of [] ≡ []
nothing = refl

blank_alone : tokens_of (codes " ") ≡ (token Blank 0 1 ∷ [])
blank_alone = refl
