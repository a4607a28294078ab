use Rattle.core_state.proofs.Showing.{shown_one, others_stay}
use Rattle.core_state.proofs.Leaving.{made_is_page}
use Rattle.core_state.proofs.laws.pages_are_shown.Goals as goal

pub returns-clause-one : goal.returns-clause-one
returns-clause-one c = shown_one

pub returns-clause-others : goal.returns-clause-others
returns-clause-others c = others_stay

pub returns-clause-made : goal.returns-clause-made
returns-clause-made c = made_is_page
