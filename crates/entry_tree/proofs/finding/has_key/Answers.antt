use Rattle.page_types.specs.Parts.{entry_shown}
use Rattle.entry_tree.proofs.Reached.{key_told}
use Rattle.entry_tree.proofs.finding.has_key.Goals as goal

pub returns-in-Some : goal.returns-in-Some
returns-in-Some c =
    key_told c.args.entries.now c.args.k (entry_shown c.in-Some.entry) c.args.key.now c.eq.result c.in-Some.ensures.some
    c.eq.ensures
