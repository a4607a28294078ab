use Rattle.std.proofs.Common.{◌*◌, drop, arith, length-drop}
use Rattle.page_types.specs.Numbers.{most_body}
use Rattle.engine.proofs.HeadChanges.{take_least}
use Rattle.engine.proofs.changes.part_at.Goals as goal

pub returns : goal.returns
returns c =
    let rest = drop (c.args.number * most_body) c.args.bytes.now in
    take_least _ most_body rest (omega arith)
    (λ lt. omega (arith, lt, length-drop (c.args.number * most_body) c.args.bytes.now))
