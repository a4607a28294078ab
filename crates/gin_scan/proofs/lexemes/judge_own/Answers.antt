use Rattle.std.proofs.Common.{arith}
use Rattle.gin_scan.proofs.OwnLexemes.{judged_one, judged_two}
use Rattle.gin_scan.proofs.lexemes.judge_own.Goals as goal

pub returns-then-operands-eq1-clause-answer : goal.returns-then-operands-eq1-clause-answer
returns-then-operands-eq1-clause-answer c = λ v encodes.
    judged_one c.args.query.now c.args.bytes.now c.front.result.1.now c.operands-operands.result.now
    c.front.ensures.rest c.operands-operands.ensures.value v encodes c.index-operands-0.result
    c.own_value-one.result c.judge.result (omega (arith, c.if-operands-eq1.true)) c.index-operands-0.is
    c.judge.ensures.answer c.own_value-one.ensures

pub returns-then-operands-eq2-clause-answer : goal.returns-then-operands-eq2-clause-answer
returns-then-operands-eq2-clause-answer c = λ v encodes.
    judged_two c.args.query.now c.args.bytes.now c.front.result.1.now c.operands-operands.result.now
    c.front.ensures.rest c.operands-operands.ensures.value v encodes
    c.index-operands-0-then-operands-eq2.result c.index-operands-1.result
    c.own_value-one-then-operands-eq2.result c.own_value-other.result c.judge-then-operands-eq2.result
    (omega (arith, c.if-operands-eq2.true)) c.index-operands-0-then-operands-eq2.is c.index-operands-1.is
    c.judge-then-operands-eq2.ensures.answer c.own_value-one-then-operands-eq2.ensures c.own_value-other.ensures
