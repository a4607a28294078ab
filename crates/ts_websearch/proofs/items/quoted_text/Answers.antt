use Rattle.std.proofs.Common.{refl}
use Rattle.ts_websearch.proofs.Cutting.{quotation_cut}
use Rattle.ts_websearch.proofs.items.quoted_text.Goals as goal

pub returns : goal.returns
returns c = rw c.unwrap_or.ensures
    (quotation_cut c.args.text.now c.split_once.result _ c.split_once.ensures.cases refl refl)
