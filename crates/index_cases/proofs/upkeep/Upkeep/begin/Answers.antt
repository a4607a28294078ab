-- The first part is at its beginning, with what is known before.
use Rattle.index_cases.proofs.upkeep.Upkeep.begin.Goals as goal

pub returns-clause-keeps : goal.returns-clause-keeps
returns-clause-keeps g c = record {
  silent = c.requires.silent;
  may = c.in_ok-stage.ensures.may;
  at = c.in_ok-stage.ensures.at c.in_ok-dead.dead;
}
