use Rattle.std.proofs.Common.{◌-◌, ℕ, sym, subst}
use Rattle.ts_match.specs.Inner.Pass.{Splits}
use Rattle.ts_match.proofs.pass.index_of.Goals as goal

pub returns-clause-splits : goal.returns-clause-splits
returns-clause-splits c =
    let v = c.args.vector.now in
    subst (λ (n : ℕ). Splits v c.args.operand.now c.args.side (n - c.skip.new.walk.left)) (sym c.count.ensures.count)
    (c.skip.ensures.splits v c.requires.normal c.go_back.ensures.at c.go_back.ensures.short)
