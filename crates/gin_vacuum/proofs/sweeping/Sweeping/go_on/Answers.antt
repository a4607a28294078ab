use Rattle.gin_vacuum.specs.Inner.Sweeping.{HasGoneOn}
use Rattle.gin_vacuum.proofs.sweeping.Sweeping.go_on.Goals as goal

pub returns-then-leaf-ne0 : goal.returns-then-leaf-ne0
returns-then-leaf-ne0 c = HasGoneOn.parent c.if-is_empty.true c.if-leaf-ne0.true

pub returns-else-is_empty : goal.returns-else-is_empty
returns-else-is_empty c = HasGoneOn.past c.go_past.new.self c.go_past.ensures
