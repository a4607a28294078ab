use Rattle.std.proofs.Common.{take, sym, ◌∙◌, ap, ◌++◌}
use Rattle.std.proofs.lemmas.List.{take-append-drop}
use Rattle.ts_base.proofs.LineWords.{behind_blanks}
use Rattle.ts_base.proofs.words.without_blanks.Goals as goal

pub range_from-requires : goal.range_from-requires
range_from-requires c some =
    let h = rw c.as_bytes.ensures.value at c.blanks_len.ensures.within in
    let k = rw c.as_bytes.ensures.value at c.blanks_len.ensures.blank in
    behind_blanks c.args.text.now c.blanks_len.result c.utf8.text h k

pub returns-clause-blanks : goal.returns-clause-blanks
returns-clause-blanks c = (
  take c.blanks_len.result c.args.text.now,
  rw c.as_bytes.ensures.value at c.blanks_len.ensures.blank,
  sym (take-append-drop c.blanks_len.result c.args.text.now)
      ∙ ap (λ z. take c.blanks_len.result c.args.text.now ++ z) (sym c.range_from.ensures.value),
)
