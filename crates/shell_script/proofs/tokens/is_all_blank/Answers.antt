use Rattle.std.proofs.Common.{length, eq-eqb, sym, ◌∙◌}
use Rattle.std.proofs.lemmas.Bool.{eqb-true}
use Rattle.shell_script.proofs.Spelling.{blank_text}
use Rattle.shell_script.proofs.tokens.is_all_blank.Goals as goal

pub returns : goal.returns
returns c =
    let gap = c.without_blanks.ensures.blanks in
    let size = length c.without_blanks.result.now in
    let both = blank_text c.args.text.now gap.0 c.without_blanks.result.now gap.1 gap.2 c.without_blanks.ensures.all in
    (λ t. both.0 (eqb-true size 0 (sym c.is_empty.ensures ∙ t)), λ h. c.is_empty.ensures ∙ eq-eqb size 0 (both.1 h))
