use Rattle.std.proofs.Common.{sym, ◌∙◌, ap, lit<, None}
use Rattle.std.proofs.lemmas.Str.Pattern.{strip_prefix_char}
use Rattle.ts_thesaurus.specs.Lines.{lexemes_in}
use Rattle.ts_thesaurus.proofs.Samples.{asked_word}
use Rattle.ts_thesaurus.proofs.line_words.indexed_word.Goals as goal

pub returns-in_default : goal.returns-in_default
returns-in_default g c =
    c.lexemes_in.ensures
    ∙ ap lexemes_in c.in_ok-lexize.ensures.value
    ∙ sym (asked_word (g.D.Dictionary.answer c.args.sub.now) c.args.word.now c.requires.0
    (strip_prefix_char 42 c.args.word.now None c.in_default.ensures.cases (lit< tt)))
