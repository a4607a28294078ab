use Rattle.std.proofs.Common.{◌≡◌, ◌<◌, ◌∙◌, length, sym, ap, arith}
use Rattle.gin_scan.proofs.OwnLexemes.{shorter, is_named, one_less, is_unnamed}
use Rattle.gin_scan.proofs.lexemes.has_named.Goals as goal

pub returns-then-names : goal.returns-then-names
returns-then-names c = λ v all is.
    let some : 0 < length c.loop-rest.rest.now = grind (arith, c.loop-rest-test.ensures) in
    is_named c.args.operand.now v c.loop-rest.rest.now c.first_lexeme.result.0.now c.first_lexeme.result.1.now some
    c.first_lexeme.ensures.lexeme c.first_lexeme.ensures.rest (c.loop-rest.invariant v all is)
    (sym c.names.ensures ∙ c.if-names.true)

pub loop-rest-smaller : goal.loop-rest-smaller
loop-rest-smaller c =
    let some : 0 < length c.loop-rest.rest.now = grind (arith, c.loop-rest-test.ensures) in
    omega (arith, some, shorter c.loop-rest.rest.now, ap length c.first_lexeme.ensures.rest)

pub loop-rest-preserved : goal.loop-rest-preserved
loop-rest-preserved c = λ v all is.
    let some : 0 < length c.loop-rest.rest.now = grind (arith, c.loop-rest-test.ensures) in
    one_less c.args.operand.now v c.loop-rest.rest.now c.first_lexeme.result.0.now c.first_lexeme.result.1.now some
    c.first_lexeme.ensures.lexeme c.first_lexeme.ensures.rest (c.loop-rest.invariant v all is)
    (sym c.names.ensures ∙ c.if-names.false)

pub returns : goal.returns
returns c = λ v all is.
    let none : length c.loop-rest.rest.now ≡ 0 = grind (arith, c.loop-rest-test.ensures) in
    is_unnamed c.args.operand.now v c.loop-rest.rest.now none (c.loop-rest.invariant v all is)
