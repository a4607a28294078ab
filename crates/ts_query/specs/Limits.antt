-- Tokens past a limit.
use Rattle.std.specs.Prelude.{ℕ, List, [], ◌∷◌, Bool, false, nat_lt, if◌then◌else◌, length, Option, Some, None}
use Rattle.ts_base.specs.declared.TheConstants.{LONGEST_LEXEME}
use Rattle.ts_query.specs.declared.TheConstants.{GREATEST_DISTANCE}
use Rattle.ts_query.specs.Queries.{Operand, Joint, or_joint, and_joint, phrase_joint}
use Rattle.ts_query.specs.Tokens.{QueryToken, word, bang, opening, closing, sign}

abbrev pub is_far : Joint → Bool
is_far or_joint = false
is_far and_joint = false
is_far (phrase_joint d) = nat_lt GREATEST_DISTANCE d

abbrev pub is_long : Operand → Bool
is_long o = nat_lt LONGEST_LEXEME (length o.lexeme)

-- the first, if there is one, else the second
abbrev pub or_else : Option ℕ → Option ℕ → Option ℕ
or_else None o = o
or_else (Some s) o = Some s

-- where the first operator starts whose distance is above 16384
abbrev pub first_far : List QueryToken → Option ℕ
first_far [] = None
first_far (word s o ∷ ks) = first_far ks
first_far (bang ∷ ks) = first_far ks
first_far (opening ∷ ks) = first_far ks
first_far (closing ∷ ks) = first_far ks
first_far (sign s j ∷ ks) = if is_far j then Some s else first_far ks

-- where the first operand starts whose lexeme has more than 2046 bytes
abbrev pub first_long : List QueryToken → Option ℕ
first_long [] = None
first_long (word s o ∷ ks) = if is_long o then Some s else first_long ks
first_long (bang ∷ ks) = first_long ks
first_long (opening ∷ ks) = first_long ks
first_long (closing ∷ ks) = first_long ks
first_long (sign s j ∷ ks) = first_long ks
