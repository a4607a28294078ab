-- A type, and how many bytes at the front of a text are of it.
use Rattle.std.specs.Prelude.{ℕ}
use Rattle.ts_parser.specs.declared.kinds.TokenType.{TokenType}
use Rattle.ts_parser.specs.declared.forms.Form.{Form}

abbrev pub form : TokenType → ℕ → Form
form k n = record { kind = k; length = n }
