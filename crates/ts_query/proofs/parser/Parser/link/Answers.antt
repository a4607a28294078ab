use Rattle.std.proofs.Common.{ℕ, List, refl}
use Rattle.ts_query.specs.Queries.{Tree}
use Rattle.ts_query.specs.Grammar.{level}
use Rattle.ts_query.specs.Inner.Frames.{Frame}
use Rattle.ts_query.specs.Inner.Parsing.{link_joint, ShowsHeld, AppliedAll}
use Rattle.ts_query.proofs.Stacks.{sign_took}
use Rattle.ts_query.proofs.parser.Parser.link.Goals as goal

pub returns : goal.returns
returns c at s d h =
    let a : (j : ℕ) (fs : List Frame) (y : Tree) → ShowsHeld c.args.self.now j fs y
    → AppliedAll (level (link_joint c.args.link)) j fs y c.apply_all.new.self =
    rw c.level_of.ensures.value at c.in_ok-apply_all.ensures in
    sign_took c.args.link at c.args.self.now c.apply_all.new.self _ s d h a refl c.in_ok-push.ensures.items refl
