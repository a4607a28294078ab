use Rattle.std.proofs.Common.{take, sym, ◌∙◌, ap, ◌++◌}
use Rattle.std.proofs.lemmas.List.{take-append-drop}
use Rattle.ts_websearch.proofs.Cutting.{behind_white}
use Rattle.ts_websearch.proofs.items.without_white.Goals as goal

pub range_from-requires : goal.range_from-requires
range_from-requires c some =
    let h = rw c.as_bytes.ensures.value at c.white_len.ensures.within in
    let k = rw c.as_bytes.ensures.value at c.white_len.ensures.white in
    behind_white c.args.text.now c.white_len.result c.utf8.text h k

pub returns-clause-white : goal.returns-clause-white
returns-clause-white c = (
  take c.white_len.result c.args.text.now,
  rw c.as_bytes.ensures.value at c.white_len.ensures.white,
  sym (take-append-drop c.white_len.result c.args.text.now)
      ∙ ap (λ z. take c.white_len.result c.args.text.now ++ z) (sym c.range_from.ensures.value),
)
