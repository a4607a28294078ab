-- By the judge's two answers.
use Rattle.gin_opclass.specs.Class.{meaning}
use Rattle.gin_hits.proofs.Verdicts.{by_answers}
use Rattle.gin_hits.proofs.judged.judge_by.Goals as goal

pub returns-clause-verdict : goal.returns-clause-verdict
returns-clause-verdict g c = λ side told.
    by_answers (meaning g.W.Meaning.asked g.W.Meaning.all g.W.Meaning.satisfies g.W.Meaning.judged) c.args.query.now
    side c.args.item c.args.absent c.answer_by-answer.result c.answer_by-sure.result c.ne.result c.eq.result
    (c.answer_by-answer.ensures.answer side told) (c.answer_by-sure.ensures.answer side told) c.ne.ensures c.eq.ensures
