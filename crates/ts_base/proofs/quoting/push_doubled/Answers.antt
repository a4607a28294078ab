use Rattle.std.proofs.Common.{◌++◌, ap, sym, ◌∙◌}
use Rattle.std.specs.String.{string_bytes}
use Rattle.ts_base.proofs.QuotedTexts.{char_once}
use Rattle.ts_base.proofs.quoting.push_doubled.Goals as goal

pub returns : goal.returns
returns c = c.in_ok-push-3.ensures.bytes
    ∙ ap (λ l. string_bytes c.args.out.now ++ l) (sym (char_once c.args.c c.if-c-eq39.false c.if-c-eq92.false))
