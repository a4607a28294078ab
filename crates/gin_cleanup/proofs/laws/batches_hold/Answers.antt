use Rattle.gin_cleanup.proofs.Growing.{batch_grows}
use Rattle.gin_cleanup.proofs.Reading.{batch_begins, placed_need_not_wait, read_more, all_read, ends_before}
use Rattle.gin_cleanup.proofs.Shifting.{ready, shifted}
use Rattle.core_state.proofs.LawsHold.{pages}
use Rattle.gin_cleanup.proofs.laws.batches_hold.Goals as goal

pub returns-clause-begins : goal.returns-clause-begins
returns-clause-begins c = batch_begins

pub returns-clause-grows : goal.returns-clause-grows
returns-clause-grows c = batch_grows

pub returns-clause-read : goal.returns-clause-read
returns-clause-read c = read_more

pub returns-clause-placed : goal.returns-clause-placed
returns-clause-placed c = placed_need_not_wait

pub returns-clause-ends_with_all : goal.returns-clause-ends_with_all
returns-clause-ends_with_all c = all_read

pub returns-clause-ends_before : goal.returns-clause-ends_before
returns-clause-ends_before c = λ R P legal shown. ends_before R P (pages R P legal shown).list

pub returns-clause-may_go : goal.returns-clause-may_go
returns-clause-may_go c = λ R P legal shown. ready R P (pages R P legal shown).list

pub returns-clause-goes : goal.returns-clause-goes
returns-clause-goes c = shifted
