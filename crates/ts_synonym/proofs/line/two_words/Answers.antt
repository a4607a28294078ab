use Rattle.ts_synonym.proofs.Said.{no_first, no_second}
use Rattle.ts_synonym.proofs.line.two_words.Goals as goal

pub returns-in_err-word-clause-none : goal.returns-in_err-word-clause-none
returns-in_err-word-clause-none c = rw c.from_residual.ensures (no_first c.args.line.now c.in_err-word.ensures.none)

pub returns-in_err-replacement-clause-none : goal.returns-in_err-replacement-clause-none
returns-in_err-replacement-clause-none c =
    let first = c.in_ok-word.ensures.some in
    rw c.from_residual-in_err-replacement.ensures (no_second c.args.line.now c.in_ok-word.word.now
    c.in_ok-word.behind.now first c.in_err-replacement.ensures.none)
