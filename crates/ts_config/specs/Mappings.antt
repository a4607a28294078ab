-- Which dictionaries a configuration gives each type of token. A dictionary goes by its place among all, and the first
-- has the place 0.
use Rattle.std.specs.Prelude.{◌≡◌, ◌≢◌, ℕ, List, [], ◌∷◌, length, replicate, unwrap_or, slice_get, slice_set}
use Rattle.ts_parser.specs.declared.kinds.TokenType.{TokenType}
use Rattle.ts_parser.specs.declared.kinds.TokenType.TheVariants.{Asciiword, Word, Numword, Sfloat, Version}
use Rattle.ts_parser.specs.declared.kinds.TokenType.TheVariants.{HwordNumpart, HwordPart, HwordAsciipart, Blank}
use Rattle.ts_parser.specs.declared.kinds.TokenType.TheVariants.{Numhword, Asciihword, Hword, Float, Int, Uint}
use Rattle.ts_config.specs.declared.TheConstants.{TYPES}

-- a list of places for each type, in the order of the types' numbers
abbrev pub Mapping : Type 0
Mapping = List (List ℕ)

abbrev pub type_place : TokenType → ℕ
type_place Asciiword = 0
type_place Word = 1
type_place Numword = 2
type_place Sfloat = 3
type_place Version = 4
type_place HwordNumpart = 5
type_place HwordPart = 6
type_place HwordAsciipart = 7
type_place Blank = 8
type_place Numhword = 9
type_place Asciihword = 10
type_place Hword = 11
type_place Float = 12
type_place Int = 13
type_place Uint = 14

-- no type has a dictionary
abbrev pub empty_mapping : Mapping
empty_mapping = replicate TYPES []

-- the dictionaries of a type
abbrev pub list_for : Mapping → TokenType → List ℕ
list_for mapping kind = unwrap_or (slice_get mapping (type_place kind)) []

-- the type's list replaced
abbrev pub with_list : Mapping → TokenType → List ℕ → Mapping
with_list mapping kind places = slice_set mapping (type_place kind) places

-- the lists of these types replaced, one after another
abbrev pub mapped : List TokenType → List ℕ → Mapping → Mapping
mapped [] places mapping = mapping
mapped (k ∷ ks) places mapping = mapped ks places (with_list mapping k places)

-- every type but blank has the dictionary at the place 0
abbrev pub simple_mapping : Mapping
simple_mapping = with_list (replicate TYPES (0 ∷ [])) Blank []

-- the type that is mapped has that list from then on, and each other keeps its own
abbrev pub MappingReplacesOne : Type 0
MappingReplacesOne = (mapping : Mapping) (kind other : TokenType) (places : List ℕ) → length mapping ≡ TYPES
    → (list_for (with_list mapping kind places) kind ≡ places)
    × (other ≢ kind → list_for (with_list mapping kind places) other ≡ list_for mapping other)

-- the configuration `simple` has the first dictionary for each type but blank
abbrev pub SimpleMapsAllButBlank : Type 0
SimpleMapsAllButBlank =
    (list_for simple_mapping Blank ≡ []) × ((kind : TokenType) → kind ≢ Blank → list_for simple_mapping kind ≡ 0 ∷ [])
