use Rattle.ts_query.proofs.Stacks.{applied_start, applied_next, applied_over}
use Rattle.ts_query.proofs.parser.Parser.apply_all.Goals as goal

pub loop-init : goal.loop-init
loop-init c j fs y s = applied_start _ j fs y _ s

pub loop-preserved : goal.loop-preserved
loop-preserved c j fs y s =
    applied_next c.args.least j fs y c.loop.self c.apply_one.new.self (c.loop.invariant j fs y s)
    (λ k gs z h. let f = c.in_ok-apply_one.ensures.applied k gs z h in rw c.if-branch.true at f)

pub returns : goal.returns
returns c j fs y s =
    applied_over c.args.least j fs y c.loop.self c.apply_one.new.self (c.loop.invariant j fs y s)
    (λ k gs z h. let f = c.in_ok-apply_one.ensures.applied k gs z h in rw c.if-branch.false at f)
