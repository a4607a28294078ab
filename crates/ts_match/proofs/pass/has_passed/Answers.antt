use Rattle.std.proofs.Common.{◌≡◌, ℕ, ◌+◌, ◌-◌, length, subst, arith}
use Rattle.ts_match.specs.Inner.Pass.{AreShort}
use Rattle.ts_match.proofs.Passes.{short_up_to}
use Rattle.ts_match.proofs.Prepared.{not-false}
use Rattle.ts_match.proofs.pass.has_passed.Goals as goal

pub returns-in-Some : goal.returns-in-Some
returns-in-Some c = λ v n a e.
    let b = a.behind c.in-Some.lexeme c.in-Some.is in
    let passed : ℕ = length v - c.args.walk.now.left in
    let last : (passed - 1) + 1 ≡ passed = (let w = b.0 in omega arith) in
    subst (λ i. AreShort v c.args.operand.now c.args.side i) last
    (short_up_to v c.args.operand.now c.args.side (passed - 1) c.in-Some.lexeme.now n (let w = b.0 in omega arith) b.1
    (c.is_short.ensures.yes (not-false c.is_short.result e)))

pub returns-in-None : goal.returns-in-None
returns-in-None c = λ v n a e k d l. let z = a.fresh c.in-None.is in absurd (omega arith)
