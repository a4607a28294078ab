use Rattle.std.proofs.Common.{ℕ, [], ◌∷◌, ◌++◌, ap, ◌∙◌}
use Rattle.core_state.specs.Allowed.{Sheet}
use Rattle.core_state.specs.Steps.{sheet}
use Rattle.gin_place.proofs.logging.with_page.Goals as goal

pub returns-in-Ok-clause-step : goal.returns-in-Ok-clause-step
returns-in-Ok-clause-step c =
    c.in-Ok.ensures.ok
    ∙ ap (λ (x : Sheet). record c.args.step { after = c.args.step.after ++ x ∷ [] })
    (c.new.ensures ∙ ap (λ (n : ℕ). sheet n c.args.page) c.number.ensures.value)
