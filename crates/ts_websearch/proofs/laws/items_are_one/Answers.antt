use Rattle.ts_websearch.proofs.ItemLists.{items_are_one}
use Rattle.ts_websearch.proofs.laws.items_are_one.Goals as goal

pub returns : goal.returns
returns c = items_are_one
