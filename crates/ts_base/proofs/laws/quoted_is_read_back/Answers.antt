use Rattle.ts_base.proofs.QuotedTexts as lemmas
use Rattle.ts_base.proofs.laws.quoted_is_read_back.Goals as goal

pub returns : goal.returns
returns c = lemmas.quoted_is_read_back
