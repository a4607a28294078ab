use Rattle.std.proofs.Common.{◌≡◌, ◌<◌, ◌∙◌, sym, length, get_or}
use Rattle.std.proofs.lemmas.List.{get_or_default}
use Rattle.shell_script.proofs.Cuts.{behind_quote_at}
use Rattle.shell_script.proofs.tokens.behind_quote.Goals as goal

pub range_from-requires : goal.range_from-requires
range_from-requires c some =
    let item = rw c.as_bytes.ensures.value at c.in-Some.ensures.item in
    let lt : 0 < length c.args.text.now = item.3.0 in
    let is : get_or c.args.text.now 0 0 ≡ 39 =
    get_or_default c.args.text.now 0 0 c.in-Some.byte.now lt ∙ sym item.1 ∙ c.if-byte-eq39.true in
    behind_quote_at c.args.text.now 0 c.utf8.text lt is
