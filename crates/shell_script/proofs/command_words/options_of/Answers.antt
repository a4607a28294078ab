use Rattle.std.proofs.Common.{refl, sym, ◌∙◌}
use Rattle.shell_script.proofs.WordCuts.{rest_is, form_some, form_none}
use Rattle.shell_script.proofs.command_words.options_of.Goals as goal

pub returns-in-len1-up-clause-some : goal.returns-in-len1-up-clause-some
returns-in-len1-up-clause-some c =
    let is = rest_is c.args.words.now c.first-item.result c.in-len1-up.len_at_least c.first-item.is in
    form_some c.args.words.now _ c.first-item.result c.options_among.result is
    (sym c.as_str.ensures.value ∙ c.if-is_run.ensures.0 refl) c.options_among.ensures.some

pub returns-in-len1-up-clause-none : goal.returns-in-len1-up-clause-none
returns-in-len1-up-clause-none c =
    let is = rest_is c.args.words.now c.first-item.result c.in-len1-up.len_at_least c.first-item.is in
    form_none c.args.words.now _ c.first-item.result c.options_among.result is c.options_among.ensures.none
