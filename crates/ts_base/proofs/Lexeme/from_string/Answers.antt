use Rattle.std.proofs.Common.{rules}
use Rattle.std.proofs.lemmas.Str.{IsUtf8-string_bytes}
use Rattle.ts_base.proofs.Lexeme.from_string.Goals as goal

pub returns-clause-valid : goal.returns-clause-valid
returns-clause-valid c = let utf8 = IsUtf8-string_bytes c.args.text in search rules
