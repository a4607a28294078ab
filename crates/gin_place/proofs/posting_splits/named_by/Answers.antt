use Rattle.std.proofs.Common.{arith}
use Rattle.gin_place.specs.Adopting.{item_divider}
use Rattle.gin_place.proofs.Passing.{passes}
use Rattle.gin_place.proofs.posting_splits.named_by.Goals as goal
use Rattle.gin_place.proofs.posting_splits.named_by.Goals.{else-not-named-via-then-not-named+else-mid-child}
use Rattle.gin_place.proofs.posting_splits.named_by.Goals.{else-not-named-via-else-not-named}

pub returns-clause-some : goal.returns-clause-some
returns-clause-some c = λ before passed.
    passes (item_divider c.args.mid) c.args.page c.args.named before c.args.child.now passed c.if-child-page.false
    (λ off. elim c.else-not-named.branch [
      | else-not-named-via-then-not-named+else-mid-child w ↦ omega arith
      | else-not-named-via-else-not-named w ↦ let z : ⊥ = cc in absurd z
    ])
