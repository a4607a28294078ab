use Rattle.shell_run.proofs.OneAnswer.{expr_one, query_one}
use Rattle.shell_run.proofs.OneDefinition.{definition_one}
use Rattle.shell_run.proofs.laws.one_answer.Goals as goal

pub returns-clause-expressions : goal.returns-clause-expressions
returns-clause-expressions c = expr_one

pub returns-clause-queries : goal.returns-clause-queries
returns-clause-queries c = query_one

pub returns-clause-definitions : goal.returns-clause-definitions
returns-clause-definitions c = definition_one
