use Rattle.std.proofs.Common.{◌≡◌, ◌<◌, length, get_or, not, true, false, sym, ◌∙◌, subst, arith, true≢false}
use Rattle.std.specs.Prelude.{bytes_eq}
use Rattle.ts_thesaurus.proofs.Best.{same_more, same_not}
use Rattle.ts_thesaurus.proofs.matching.same_lexemes.Goals as goal

pub returns-then-ne : goal.returns-then-ne
returns-then-ne c =
    let other = (get_or c.args.right.now c.loop-i.i c.index-right-i.result).lexeme in
    let within : c.loop-i.i < length c.args.right.now = omega arith in
    let test : not (bytes_eq c.index-left-i.result.lexeme other) ≡ true = sym c.ne.ensures ∙ c.if-ne.true in
    let differ = same_not c.args.left.now c.args.right.now c.loop-i.i c.index-left-i.result c.index-right-i.result
    c.loop-i-test.true within (subst (λ z. not (bytes_eq z.lexeme other) ≡ true) c.index-left-i.is test) in
    ((λ t. absurd (true≢false (sym t))), (λ e. absurd (differ e)))

pub loop-i-preserved : goal.loop-i-preserved
loop-i-preserved c =
    let other = (get_or c.args.right.now c.loop-i.i c.index-right-i.result).lexeme in
    let within : c.loop-i.i < length c.args.right.now = omega arith in
    let test : not (bytes_eq c.index-left-i.result.lexeme other) ≡ false = sym c.ne.ensures ∙ c.if-ne.false in
    same_more c.args.left.now c.args.right.now c.loop-i.i c.index-left-i.result
    c.index-right-i.result c.loop-i-test.true within c.loop-i.invariant
    (subst (λ z. not (bytes_eq z.lexeme other) ≡ false) c.index-left-i.is test)
