use Rattle.std.proofs.Common.{◌≤◌, ◌≡◌, ◌++◌, ◌∷◌, [], arith}
use Rattle.ts_query.specs.Grammar.{level}
use Rattle.ts_query.specs.Inner.Parsing.{link_joint}
use Rattle.ts_query.specs.declared.parser.Op.TheVariants.{Not, Pending}
use Rattle.ts_query.proofs.Stacks.{applied_not, applied_joint}
use Rattle.ts_query.proofs.parser.Parser.apply_one.Goals as goal

pub returns-in_ok-apply-in-Some-Not-clause-applied : goal.returns-in_ok-apply-in-Some-Not-clause-applied
returns-in_ok-apply-in-Some-Not-clause-applied c j fs y s =
    let k = c.in-Some-Not.ensures in
    let e : c.args.self.now.ops.items ≡ k.0 ++ Not ∷ [] = rw c.in-Some-Not.field-0-is at k.1 in
    applied_not c.args.least j fs y _ _ k.0 c.requires s e c.in_ok-apply-in-Some-Not.ensures.place
    (c.in_ok-apply-in-Some-Not.ensures.ops Not k.0 e) c.in_ok-apply-in-Some-Not.ensures.out

pub returns-in_ok-apply-in-Some-Pending-clause-applied : goal.returns-in_ok-apply-in-Some-Pending-clause-applied
returns-in_ok-apply-in-Some-Pending-clause-applied c j fs y s =
    let k = c.in-Some-Pending.ensures in
    let e : c.args.self.now.ops.items ≡ k.0 ++ Pending c.in-Some-Pending.link ∷ [] =
    rw c.in-Some-Pending.field-0-is at k.1 in
    let b : c.args.least ≤ level (link_joint c.in-Some-Pending.link) = omega arith in
    applied_joint c.in-Some-Pending.link c.args.least j fs y _ _ k.0 b s e c.in_ok-apply-in-Some-Pending.ensures.place
    (c.in_ok-apply-in-Some-Pending.ensures.ops (Pending c.in-Some-Pending.link) k.0 e)
    c.in_ok-apply-in-Some-Pending.ensures.out
