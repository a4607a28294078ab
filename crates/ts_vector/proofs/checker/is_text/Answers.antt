use Rattle.std.proofs.Common.{refl}
use Rattle.std.proofs.lemmas.Str.{IsUtf8-from_ascii}
use Rattle.ts_vector.proofs.checker.is_text.Goals as goal

pub returns-then-is_ascii : goal.returns-then-is_ascii
returns-then-is_ascii c =
    (λ _. IsUtf8-from_ascii c.args.bytes.now (c.is_ascii.ensures (let yes = c.if-is_ascii.true in cc)), λ _. refl)
