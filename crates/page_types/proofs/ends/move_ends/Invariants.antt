use Rattle.std.proofs.Common.{◌≡◌, ◌++◌, map, take, drop}
use Rattle.page_types.specs.Inner.Cuts.{moved}
use Rattle.page_types.proofs.ends.move_ends.Given as goal

abbrev pub invariant-loop-end : goal.invariant-loop-end
invariant-loop-end l =
    l.ends ≡ map (moved l.from l.to) (take l.end-index l.initial.ends) ++ drop l.end-index l.initial.ends
