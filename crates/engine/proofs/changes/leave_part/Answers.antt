use Rattle.std.proofs.Common.{ℕ, List, [], ◌∷◌, ◌++◌, ap, ◌∙◌}
use Rattle.core_state.specs.Allowed.{Sheet}
use Rattle.core_state.specs.Steps.{sheet}
use Rattle.engine.specs.Inner.Changing.{part_page}
use Rattle.engine.proofs.changes.leave_part.Goals as goal

pub returns : goal.returns
returns c =
    c.in_ok-leave.ensures.ok
    ∙ ap (λ (y : Sheet). record c.args.step.now { after = c.args.step.now.after ++ y ∷ [] })
    (c.new.ensures
    ∙ ap (λ (bytes : List ℕ). sheet c.args.number (part_page c.args.right bytes)) c.in_ok-from_slice.ensures)
