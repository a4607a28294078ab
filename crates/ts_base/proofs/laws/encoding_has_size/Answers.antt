use Rattle.ts_base.proofs.Encoding as encoding
use Rattle.ts_base.proofs.laws.encoding_has_size.Goals as goal

pub returns : goal.returns
returns c = encoding.encoding_has_size
