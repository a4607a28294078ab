use Rattle.std.proofs.Common.{eqb, rules, tests}
use Rattle.std.proofs.lemmas.Iterator.{YieldsList-from_slice}
use Rattle.std.proofs.lemmas.Iterator.Search.{any_from_yields_List}
use Rattle.page_types.specs.declared.record.Change.{Change}
use Rattle.record_code.proofs.records.is_among.Goals as goal

pub returns : goal.returns
returns c =
    any_from_yields_List (λ (x : Change). eqb x.page c.args.page) _ _ _ c.any.ensures.ran
    (YieldsList-from_slice c.args.changes.now cc) (λ x b q k. search (rules, tests))
