-- The token list of a text, computed.
use Rattle.std.specs.Prelude.{◌≡◌, ◌↔◌, ℕ, zero, suc, ◌+◌, ◌-◌, List, [], ◌∷◌, ◌++◌, take, drop, Bool, if◌then◌else◌}
use Rattle.std.specs.Prelude.{◌==◌, ◌||◌, Option, Some, None, is_some, slice_get}
use Rattle.ts_parser.specs.declared.kinds.TokenType.{TokenType}
use Rattle.ts_parser.specs.declared.kinds.TokenType.TheVariants.{Blank}
use Rattle.ts_parser.specs.declared.iter.Token.{Token}
use Rattle.ts_parser.specs.declared.forms.Form.{Form}
use Rattle.ts_parser.specs.Kinds.{has_parts}
use Rattle.ts_parser.specs.Letters.{is_word_byte, begins_with}
use Rattle.ts_parser.specs.Forms.{form}
use Rattle.ts_parser.specs.NumberForms.{number_at}
use Rattle.ts_parser.specs.WordForms.{word_form, part_form}
use Rattle.ts_parser.specs.TokenList.{token, IsTokenList}

-- ── blanks ──
-- a number or a run starts at the front
abbrev pub starts_form : Option ℕ → List ℕ → Bool
starts_form before u = begins_with is_word_byte u || is_some (number_at before u)

-- how many bytes at the front are at no place where one starts
abbrev pub blank_len : Option ℕ → List ℕ → ℕ
blank_len before [] = 0
blank_len before (c ∷ u) = if starts_form before (c ∷ u) then 0 else suc (blank_len (Some c) u)

-- ── tokens ──
abbrev pub word_or_blank : Option ℕ → List ℕ → Form
word_or_blank before u = if begins_with is_word_byte u then word_form u else form Blank (blank_len before u)

abbrev pub or_form : Option Form → Form → Form
or_form None f = f
or_form (Some f) g = f

-- the form at the front of a text that is not empty
abbrev pub form_at : Option ℕ → List ℕ → Form
form_at before u = or_form (number_at before u) (word_or_blank before u)

abbrev pub token_of : Form → ℕ → Token
token_of f n = token f.kind n f.length

-- the parts of a hyphen word from an offset on; the first k bytes are within a part
abbrev pub parts_from : ℕ → ℕ → List ℕ → List Token
parts_from k n [] = []
parts_from (suc k) n (c ∷ u) = parts_from k (n + 1) u
parts_from zero n (c ∷ u) = token_of (part_form (c ∷ u)) n ∷ parts_from ((part_form (c ∷ u)).length - 1) (n + 1) u

abbrev pub parts_of : TokenType → ℕ → List ℕ → List Token
parts_of k n u = if has_parts k then parts_from 0 n u else []

-- the tokens from an offset on; the first k bytes are within a token
abbrev pub tokens_from : ℕ → ℕ → Option ℕ → List ℕ → List Token
tokens_from k n before [] = []
tokens_from (suc k) n before (c ∷ u) = tokens_from k (n + 1) (Some c) u
tokens_from zero n before (c ∷ u) = token_of (form_at before (c ∷ u)) n
    ∷ (parts_of (form_at before (c ∷ u)).kind n (take (form_at before (c ∷ u)).length (c ∷ u))
    ++ tokens_from ((form_at before (c ∷ u)).length - 1) (n + 1) (Some c) u)

abbrev pub byte_before : List ℕ → ℕ → Option ℕ
byte_before text n = if n == 0 then None else slice_get text (n - 1)

abbrev pub tokens_at : List ℕ → ℕ → List Token
tokens_at text n = tokens_from 0 n (byte_before text n) (drop n text)

-- the token list of a text
abbrev pub tokens_of : List ℕ → List Token
tokens_of text = tokens_at text 0

-- a text has exactly one token list, which is the one computed
abbrev pub OneTokenList : Type 0
OneTokenList = (text : List ℕ) (ts : List Token) → IsTokenList text ts ↔ (ts ≡ tokens_of text)
