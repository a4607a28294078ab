use Rattle.ts_base.proofs.QuotedTexts as lemmas
use Rattle.ts_base.proofs.laws.quoted_has_one_reading.Goals as goal

pub returns : goal.returns
returns c = lemmas.quoted_has_one_reading
