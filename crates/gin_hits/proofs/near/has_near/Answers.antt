use Rattle.std.proofs.Common.{arith}
use Rattle.gin_hits.proofs.NearItems.{near_there, near_absent}
use Rattle.gin_hits.proofs.near.has_near.Goals as goal

pub returns-then-at-items : goal.returns-then-at-items
returns-then-at-items c =
    near_there c.args.items.now c.first_from-at.result c.args.item c.requires c.first_from-at.ensures.below
    c.first_from-at.ensures.there (omega (arith, c.if-at-items.true))

pub returns : goal.returns
returns c =
    near_absent c.args.items.now c.first_from-at.result c.args.item c.requires c.first_from-at.ensures.below
    (λ lt. absurd (omega (arith, lt, c.if-at-items.false)))
