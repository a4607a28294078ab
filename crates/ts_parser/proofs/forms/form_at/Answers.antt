use Rattle.std.proofs.Common.{sym, ◌∙◌}
use Rattle.ts_parser.proofs.Fits.{number_fits, word_fits}
use Rattle.ts_parser.proofs.forms.form_at.Goals as goal

pub returns-in-Some-clause-within : goal.returns-in-Some-clause-within
returns-in-Some-clause-within c =
    number_fits c.args.before c.args.u.now c.in-Some.number (sym c.in-Some.is ∙ c.number_at.ensures)

pub returns-then-begins_with_word_byte-clause-within :
    goal.returns-then-begins_with_word_byte-clause-within
returns-then-begins_with_word_byte-clause-within c =
    word_fits c.args.u.now c.word_form.result c.word_form.ensures
    (sym c.begins_with_word_byte.ensures ∙ c.if-begins_with_word_byte.true)
