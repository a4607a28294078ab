use Rattle.shell_script.proofs.Exprs.{missed}
use Rattle.shell_script.proofs.Spelling.{word_front, no_blank_word, no_quoted_word}
use Rattle.shell_script.proofs.tokens.front_word.Goals as goal

pub returns-in_err-word-clause-none : goal.returns-in_err-word-clause-none
returns-in_err-word-clause-none c =
    missed c.from_residual.result _ (no_blank_word c.args.text.now c.in_err-word.ensures.none)

pub returns-in-Some-clause-none : goal.returns-in-Some-clause-none
returns-in-Some-clause-none c =
    let piece = c.in-Some.field-0 in
    no_quoted_word c.args.text.now c.in_ok-word.word.now c.in_ok-word.rest.now piece.0.now piece.1.now
    c.in_ok-word.ensures.some c.in-Some.ensures.some.0

pub returns-in-None-clause-some : goal.returns-in-None-clause-some
returns-in-None-clause-some c = word_front c.args.text.now c.in_ok-word.word.now c.in_ok-word.rest.now
    c.in_ok-word.ensures.some c.in-None.ensures.none
