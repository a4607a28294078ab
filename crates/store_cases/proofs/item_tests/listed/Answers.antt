use Rattle.std.proofs.Common.{◌≡◌, rules, subst, sym, arith}
use Rattle.std.proofs.lemmas.Grind.{common_steps}
use Rattle.page_types.specs.Items.{AreItems, items_of}
use Rattle.store_cases.proofs.item_tests.listed.Goals as goal

pub returns : goal.returns
returns c =
    let all : c.loop-item.items.items ≡ items_of c.args.bytes.now =
    first_of (search rules, grind (arith, common_steps)) in
    subst AreItems (sym all) c.requires.items
