use Rattle.std.proofs.Common.{◌≡◌, ◌∙◌, ℕ, [], ◌∷◌, ◌++◌, ap, subst}
use Rattle.std.specs.Prelude.{OnOk}
use Rattle.core_state.specs.Allowed.{Sheet}
use Rattle.core_state.specs.Steps.{sheet}
use Rattle.gin_vacuum.proofs.logging.leave.Goals as goal

pub returns-clause-left : goal.returns-clause-left
returns-clause-left c =
    let old = c.args.step.now in
    subst (λ (x : Sheet). OnOk c.leave.result (c.leave.new.self ≡ record old { after = old.after ++ x ∷ [] }))
    (c.new.ensures ∙ ap (λ (n : ℕ). sheet n c.args.page) c.number.ensures.value) c.leave.ensures.ok
