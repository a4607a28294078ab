use Rattle.std.proofs.Common.{IfOk, sym, subst}
use Rattle.shell_run.specs.Values.{IsMadeBy}
use Rattle.shell_run.proofs.values.made_by.Goals as goal

pub returns-in-Plain-clause-value : goal.returns-in-Plain-clause-value
returns-in-Plain-clause-value c =
    subst (λ m. IfOk c.plainto_tsquery.result (IsMadeBy m c.args.configs.now c.args.mapping.now c.args.text.now))
    (sym c.in-Plain.is) c.plainto_tsquery.ensures.value

pub returns-in-Phrase-clause-value : goal.returns-in-Phrase-clause-value
returns-in-Phrase-clause-value c =
    subst (λ m. IfOk c.phraseto_tsquery.result (IsMadeBy m c.args.configs.now c.args.mapping.now c.args.text.now))
    (sym c.in-Phrase.is) c.phraseto_tsquery.ensures.value
