use Rattle.ts_base.proofs.Encoding as encoding
use Rattle.ts_base.proofs.laws.encoding_tells_vector.Goals as goal

pub returns : goal.returns
returns c = encoding.encoding_tells_vector
