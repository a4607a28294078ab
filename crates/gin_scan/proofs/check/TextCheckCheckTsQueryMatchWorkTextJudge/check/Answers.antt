-- Where its lexemes decide.
use Rattle.ts_match.specs.Meaning.{Holds}
use Rattle.gin_scan.proofs.BytesTold.{tells_yes, tells_no}
use Rattle.gin_scan.proofs.check.TextCheckCheckTsQueryMatchWorkTextJudge.check.Goals as goal

pub returns-in-True-clause-tells : goal.returns-in-True-clause-tells
returns-in-True-clause-tells c =
    tells_yes (Holds c.args.query.now) c.args.bytes.now c.encode_vector.result c.in-True.ensures.answer
    c.encode_vector.ensures

pub returns-in-False-clause-tells : goal.returns-in-False-clause-tells
returns-in-False-clause-tells c = tells_no (Holds c.args.query.now) c.args.bytes.now c.in-False.ensures.answer
