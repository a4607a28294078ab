use Rattle.ginsh.proofs.end_of.Goals as goal

pub returns-in-Ok-clause-run : goal.returns-in-Ok-clause-run
returns-in-Ok-clause-run g c =
    rw c.in-Ok.is (c.answer.result, rw c.deref.ensures.value at c.answer.ensures, c.from.ensures)

pub returns-in-Ok-clause-form : goal.returns-in-Ok-clause-form
returns-in-Ok-clause-form g c =
    rw (c.in-Ok.is, c.from.ensures) (rw c.deref.ensures.value at c.answer.ensures.meets.status_2)
