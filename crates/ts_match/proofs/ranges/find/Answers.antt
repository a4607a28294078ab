use Rattle.ts_match.proofs.Lookups.{found_prefix, found_word}
use Rattle.ts_match.proofs.ranges.find.Goals as goal

pub returns-then-operand : goal.returns-then-operand
returns-then-operand c =
    found_prefix c.args.vector.now c.args.operand.now c.first_from-first.result c.end_of_prefix-end.result
    c.end_of_prefix-end.ensures.from c.end_of_prefix-end.ensures.within
    c.first_from-first.ensures.below c.if-operand.true c.end_of_prefix-end.ensures.begin
    c.end_of_prefix-end.ensures.behind

pub returns : goal.returns
returns c =
    found_word c.args.vector.now c.args.operand.now c.first_from-first.result c.end_of_lexeme-end.result
    c.end_of_lexeme-end.ensures.from c.end_of_lexeme-end.ensures.within
    c.first_from-first.ensures.below c.if-operand.false c.end_of_lexeme-end.ensures.same
    c.end_of_lexeme-end.ensures.behind
