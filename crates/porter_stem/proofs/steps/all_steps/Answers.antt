use Rattle.std.proofs.Common.{ap, ◌∙◌}
use Rattle.porter_stem.specs.Tables.{step, rules_1c, rules_2, rules_3, rules_4, rules_5a}
use Rattle.porter_stem.specs.Stem.{step_1b, step_5b}
use Rattle.porter_stem.proofs.steps.all_steps.Goals as goal

pub returns : goal.returns
returns c = c.step_5b.ensures
    ∙ ap step_5b (c.step-6.ensures.value ∙ ap (step rules_5a) (c.step-5.ensures.value ∙ ap (step rules_4)
    (c.step-4.ensures.value
    ∙ ap (step rules_3) (c.step-3.ensures.value ∙ ap (step rules_2) (c.step-2.ensures.value ∙ ap (step rules_1c)
    (c.step_1b.ensures ∙ ap step_1b c.step.ensures.value))))))
