use Rattle.std.proofs.Common.{arith}
use Rattle.ts_match.proofs.Laid.{last_most}
use Rattle.ts_match.proofs.layout.last_position.Goals as goal

pub returns-clause-each : goal.returns-clause-each
returns-clause-each c p h =
    let a = last_most c.args.positions.now c.index-positions-count.result p c.requires
    (omega arith) c.index-positions-count.is h in
    omega (arith, a, c.at.ensures.value)
