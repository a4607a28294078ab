use Rattle.gin_hits.proofs.ItemLists.{has_item}
use Rattle.gin_hits.proofs.hits.has.Goals as goal

pub returns : goal.returns
returns c =
    has_item c.args.items.now c.args.item c.binary_search.result c.is_ok.result c.requires
    c.binary_search.ensures.position c.is_ok.ensures.value
