use Rattle.page_types.proofs.ItemLists.{lists_are_told, have_lists}
use Rattle.page_types.proofs.ItemReading.{reading_tells}
use Rattle.page_types.proofs.laws.items_are_told.Goals as goal

pub returns-clause-one : goal.returns-clause-one
returns-clause-one c = lists_are_told

pub returns-clause-all : goal.returns-clause-all
returns-clause-all c = have_lists

pub returns-clause-read : goal.returns-clause-read
returns-clause-read c = reading_tells
