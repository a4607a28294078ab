-- What the first line of a definition says, and a line of a configuration.
use Rattle.std.specs.Prelude.{◌≡◌, ◌≢◌, ◌⊎◌, ℕ, ◌<◌, ◌≤◌, Bool, true, false, not, List, [], ◌∷◌, length, map, codes}
use Rattle.std.specs.List.{All, join_with_byte}
use Rattle.std.specs.Str.{IsUtf8}
use Rattle.std.specs.Char.{IsAsciiDigit, IsAsciiAlphabetic}
use Rattle.ts_base.specs.Bytes.{BeginsWithout}
use Rattle.ts_parser.specs.declared.kinds.TokenType.{TokenType}
use Rattle.ts_parser.specs.Kinds.{type_name}
use Rattle.shell_script.specs.Tokens.{ScriptToken, word, IsSpelled}
use Rattle.shell_script.specs.declared.opening_lines.TheConstants.{LONGEST_NAME}

abbrev pub IsNameByte : ℕ → Type 0
IsNameByte c = IsAsciiAlphabetic c ⊎ IsAsciiDigit c ⊎ (c ≡ 95)

-- An ASCII letter or `_`, and then letters, digits and `_`. Two words of expressions are no names.
pub record IsName (name : List ℕ) : Type 0 where
  pub some : 0 < length name
  pub short : length name ≤ LONGEST_NAME
  pub each : All IsNameByte name
  pub first : BeginsWithout IsAsciiDigit name
  pub free : (name ≢ codes "vector") × (name ≢ codes "strip")

-- The kind of a dictionary: words in lower case, where others than stop words may be accepted or not;
-- stems; synonyms, where the case may count; phrases, over the dictionary of a name.
pub data Kind : Type 0 where
  simple_kind : Bool → Kind
  porter_kind : Kind
  synonym_kind : Bool → Kind
  thesaurus_kind : List ℕ → Kind

-- what the first line of a definition says
pub data OpeningLine : Type 0 where
  dictionary_opening : List ℕ → Kind → OpeningLine
  configuration_opening : List ℕ → OpeningLine

-- a word that is there or isn't
abbrev pub mark_tokens : Bool → List ℕ → List ScriptToken
mark_tokens true mark = word mark ∷ []
mark_tokens false mark = []

-- `pass` is where words that are no stop words are not accepted
abbrev pub kind_tokens : Kind → List ScriptToken
kind_tokens (simple_kind accept) = word (codes "simple") ∷ mark_tokens (not accept) (codes "pass")
kind_tokens porter_kind = word (codes "porter") ∷ []
kind_tokens (synonym_kind cases) =
    word (codes "synonym") ∷ mark_tokens cases (codes "casesensitive")
kind_tokens (thesaurus_kind sub) = word (codes "thesaurus") ∷ word sub ∷ []

abbrev pub opening_tokens : OpeningLine → List ScriptToken
opening_tokens (dictionary_opening name kind) =
    word (codes "dictionary") ∷ word name ∷ kind_tokens kind
opening_tokens (configuration_opening name) = word (codes "configuration") ∷ word name ∷ []

-- what a kind names is a NAME
abbrev pub IsNamedKind : Kind → Type 0
IsNamedKind (thesaurus_kind sub) = IsName sub
IsNamedKind kind = Unit {0}

abbrev pub HasNames : OpeningLine → Type 0
HasNames (dictionary_opening name kind) = IsName name × IsNamedKind kind
HasNames (configuration_opening name) = IsName name

pub record IsOpeningLine (line : List ℕ) (head : OpeningLine) : Type 0 where
  pub utf8 : IsUtf8 line
  pub named : HasNames head
  pub spelled : IsSpelled line (opening_tokens head)

-- a line of a configuration: names of types with commas between them, and the names of the
-- dictionaries that these types get
pub record IsMapping (line : List ℕ) (types : List TokenType) (names : List (List ℕ)) : Type 0 where
  pub utf8 : IsUtf8 line
  pub some_type : 0 < length types
  pub some_name : 0 < length names
  pub named : All IsName names
  pub spelled : IsSpelled line (word (join_with_byte 44 (map type_name types)) ∷ map word names)
