use Rattle.std.proofs.Common.{sym}
use Rattle.page_types.specs.Parts.{entry_shown}
use Rattle.entry_tree.proofs.SplitParts.{last_key-take}
use Rattle.entry_tree.proofs.splitting.key_of.Goals as goal

pub returns-in-Some : goal.returns-in-Some
returns-in-Some c =
    sym (last_key-take c.args.entries.now c.args.k (entry_shown c.in-Some.entry) c.in-Some.ensures.some)
