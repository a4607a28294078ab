use Rattle.gin_vacuum.specs.Inner.Sweeping.{GoesPast}
use Rattle.gin_vacuum.proofs.sweeping.Sweeping.go_past.Goals as goal

pub returns-then-link-eq0 : goal.returns-then-link-eq0
returns-then-link-eq0 c = GoesPast.tree c.next_tree.new.self c.if-link-eq0.true c.next_tree.ensures

pub returns-else-link-eq0 : goal.returns-else-link-eq0
returns-else-link-eq0 c = GoesPast.leaf c.if-link-eq0.false
