use Rattle.std.proofs.Common.{true, false, [], sym, subst}
use Rattle.page_types.specs.Pages.{IsBody}
use Rattle.page_types.specs.Views.{entries_in}
use Rattle.page_types.specs.declared.page.Body.{Body}
use Rattle.entry_tree.specs.Adding.{HasNoTree}
use Rattle.entry_tree.specs.Inner.Spots.{IsSpot}
use Rattle.entry_tree.proofs.KeyOrders.{rising_keys}
use Rattle.entry_tree.proofs.AddedPages.{spot_here, spot_absent}
use Rattle.entry_tree.proofs.adding.spot_of.Goals as goal

pub below-place-requires : goal.below-place-requires
below-place-requires g c =
    rising_keys c.in-EntryLeaf.entries
    (subst (IsBody c.args.page.now.right c.args.page.now.stamp) c.in-EntryLeaf.is c.requires.page.body).1

pub returns-in-Some : goal.returns-in-Some
returns-in-Some g c =
    let key = c.args.key.now in
    let place = c.below-place.result in
    subst (λ (b : Body). IsSpot (entries_in b) key place true c.in-Some.old.now) (sym c.in-EntryLeaf.is)
    (spot_here c.in-EntryLeaf.entries key c.in-Some.old.now place
    (subst (IsBody c.args.page.now.right c.args.page.now.stamp) c.in-EntryLeaf.is c.requires.page.body).1
    c.below-place.ensures c.in-Some.ensures.some)

pub returns-in-None : goal.returns-in-None
returns-in-None g c =
    let key = c.args.key.now in
    let place = c.below-place.result in
    subst (λ (b : Body). IsSpot (entries_in b) key place false []) (sym c.in-EntryLeaf.is)
    (spot_absent c.in-EntryLeaf.entries key place
    (subst (IsBody c.args.page.now.right c.args.page.now.stamp) c.in-EntryLeaf.is c.requires.page.body).1
    c.below-place.ensures c.in-None.ensures.none
    (subst (λ (b : Body). HasNoTree b key) c.in-EntryLeaf.is c.requires.no_tree))
