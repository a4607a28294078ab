use Rattle.std.proofs.Common.{rules}
use Rattle.page_types.specs.Parts.{child_shown}
use Rattle.gin_place.specs.Adopting.{key_divider}
use Rattle.gin_place.proofs.Passing.{passes}
use Rattle.gin_place.proofs.splitting.named_by.Goals as goal
use Rattle.gin_place.proofs.splitting.named_by.Goals.{else-not-named-via-then-not-named+else-not-is_above}
use Rattle.gin_place.proofs.splitting.named_by.Goals.{else-not-named-via-else-not-named}

pub returns-clause-some : goal.returns-clause-some
returns-clause-some g c = λ before passed.
    passes (key_divider c.args.mid.now) c.args.page c.args.named before (child_shown c.args.child) passed
    c.if-child-page.false
    (λ off. elim c.else-not-named.branch [
      | else-not-named-via-then-not-named+else-not-is_above w ↦ w.is_above.ensures.0 (search rules)
      | else-not-named-via-else-not-named w ↦ let z : ⊥ = cc in absurd z
    ])
