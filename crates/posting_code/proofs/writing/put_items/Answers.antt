use Rattle.posting_code.proofs.Loops.{listing_cut}
use Rattle.posting_code.proofs.writing.put_items.Goals as goal

pub returns-in_err-put_varbyte-clause-front : goal.returns-in_err-put_varbyte-clause-front
returns-in_err-put_varbyte-clause-front c =
    listing_cut c.args.out.now.items c.loop-item.out.items c.put_varbyte.new.out.items c.args.items.now
    c.loop-item.item-index c.loop-item.last c.loop-item.invariant c.put_varbyte.ensures.front
