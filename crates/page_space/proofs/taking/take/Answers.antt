use Rattle.page_space.specs.Taking.{IsTaken}
use Rattle.page_space.proofs.NewPages.{new_by}
use Rattle.page_space.proofs.taking.take.Goals as goal

pub returns-in-Some-clause-full : goal.returns-in-Some-clause-full
returns-in-Some-clause-full c =
    (λ e. absurd cc, λ full. absurd (full.no_deleted c.in-Some.page c.in-Some.ensures.holds))

pub returns-in-Some-clause-is_new : goal.returns-in-Some-clause-is_new
returns-in-Some-clause-is_new c =
    new_by c.args.state.now.value c.args.since c.in-Some.page (IsTaken.deleted c.in-Some.ensures)
