-- Whether a head is seen, by what became of its transactions.
use Rattle.page_types.specs.Parts.{head_shown}
use Rattle.core_state.specs.States.{fate_of}
use Rattle.gin_scan.proofs.HeadsSeen.{seen_unless, unseen}
use Rattle.gin_scan.proofs.asks.sees.Goals as goal

pub returns-then-inserted : goal.returns-then-inserted
returns-then-inserted c =
    seen_unless (fate_of c.args.state.now.value) c.args.commits (head_shown c.args.head)
    c.is_within-deleted.result (c.is_within-inserted.ensures.0 c.if-inserted.true) c.is_within-deleted.ensures

pub returns-else-inserted : goal.returns-else-inserted
returns-else-inserted c =
    unseen (fate_of c.args.state.now.value) c.args.commits (head_shown c.args.head)
    c.is_within-inserted.result c.if-inserted.false c.is_within-inserted.ensures
