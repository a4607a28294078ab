use Rattle.ts_match.proofs.Prepared.{leaf_found}
use Rattle.ts_match.proofs.phrase.leaf_at.Goals as goal

pub stands-requires-clause-found : goal.stands-requires-clause-found
stands-requires-clause-found c =
    let p = c.args.phrase.now in
    leaf_found p.vector.now p.operands.now p.found.now c.args.step.node c.in-Leaf.k c.in-Leaf.is c.requires.found _ _
