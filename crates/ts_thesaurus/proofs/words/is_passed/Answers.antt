use Rattle.std.proofs.Common.{◌≢◌, [], length, eqb, sym, ap, ◌∙◌, true≢false}
use Rattle.ts_thesaurus.proofs.Cuts.{passed_hash}
use Rattle.ts_thesaurus.proofs.words.is_passed.Goals as goal

pub returns-else-is_empty : goal.returns-else-is_empty
returns-else-is_empty c =
    let gap = c.without_blanks-rest.ensures.blanks in
    let rest = c.without_blanks-rest.result.now in
    let some : rest ≢ [] =
    λ e. true≢false (sym (ap (λ z. eqb (length z) 0) e) ∙ sym c.is_empty.ensures ∙ c.if-is_empty.false) in
    rw c.as_bytes.ensures.value
    (passed_hash c.args.line.now gap.0 rest gap.1 gap.2 c.without_blanks-rest.ensures.all some)
