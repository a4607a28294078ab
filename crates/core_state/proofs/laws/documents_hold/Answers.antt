use Rattle.core_state.proofs.LawsHold.{documents, commits_hold}
use Rattle.core_state.proofs.laws.documents_hold.Goals as goal

pub returns-clause-documents : goal.returns-clause-documents
returns-clause-documents c = documents

pub returns-clause-commits : goal.returns-clause-commits
returns-clause-commits c = commits_hold
