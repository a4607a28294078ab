-- By the judge's answers.
use Rattle.gin_opclass.specs.Class.{meaning}
use Rattle.gin_hits.proofs.Verdicts.{alone_out, alone_kept}
use Rattle.gin_hits.proofs.judged.judge_alone.Goals as goal

pub returns-then-eq-clause-verdict : goal.returns-then-eq-clause-verdict
returns-then-eq-clause-verdict g c = λ side told.
    alone_out (meaning g.W.Meaning.asked g.W.Meaning.all g.W.Meaning.satisfies g.W.Meaning.judged) c.args.query.now
    side c.args.item c.args.absent c.answer_by-possible.result (c.answer_by-possible.ensures.answer side told)
    c.if-eq.ensures

pub returns-clause-verdict : goal.returns-clause-verdict
returns-clause-verdict g c = λ side told.
    alone_kept (meaning g.W.Meaning.asked g.W.Meaning.all g.W.Meaning.satisfies g.W.Meaning.judged) c.args.query.now
    side c.args.item c.args.absent c.answer_by-possible.result c.answer_by-known.result c.eq-2.result
    (c.answer_by-possible.ensures.answer side told) (c.answer_by-known.ensures.answer side told) c.if-eq.ensures
    c.eq-2.ensures
