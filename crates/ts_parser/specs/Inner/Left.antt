-- What is left of a text's tokens.
use Rattle.std.specs.Prelude.{◌≡◌, ◌+◌, ◌<◌, ◌≤◌, List, ◌++◌, length, take, drop}
use Rattle.ts_parser.specs.declared.iter.Token.{Token}
use Rattle.ts_parser.specs.declared.iter.Tokens.TheInside.{Inside}
use Rattle.ts_parser.specs.NumberForms.{groups_len}
use Rattle.ts_parser.specs.TokensOf.{parts_from, tokens_at}

-- the parts that are yet to be given, and then the tokens from `at` on
abbrev pub tokens_left : Inside → List Token
tokens_left t = parts_from 0 t.part (drop t.part (take t.at t.text.now)) ++ tokens_at t.text.now t.at

pub record AreLeft (t : Inside) : Type 0 where
  pub within : t.at ≤ length t.text.now
  pub parts : t.part ≤ t.at
  pub groups : t.at < t.groups_end → groups_len (drop t.at t.text.now) + t.at ≡ t.groups_end
