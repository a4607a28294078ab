-- Lexemes as lists of bytes, and their order.
use Rattle.std.specs.Prelude.{◌≡◌, ℕ, ◌≤◌, List, length}
use Rattle.std.specs.Ordering.{nat_cmp}
use Rattle.std.specs.declared.cmp.Ordering.TheVariants.{Less}
use Rattle.std.specs.Cmp.Lexicographic.{slice_cmp}
use Rattle.std.specs.Str.{IsUtf8}
use Rattle.ts_base.specs.declared.TheConstants.{LONGEST_LEXEME}

-- a lexeme is a text of 1 to 2046 bytes
pub record IsLexeme (bytes : List ℕ) : Type 0 where
  pub some : 1 ≤ length bytes
  pub most : length bytes ≤ LONGEST_LEXEME
  pub utf8 : IsUtf8 bytes

-- byte order: the first byte that differs decides, and a proper prefix comes first
abbrev pub IsBefore : List ℕ → List ℕ → Type 0
IsBefore a b = slice_cmp nat_cmp a b ≡ Less
