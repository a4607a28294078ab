use Rattle.ts_vector.proofs.Decoding as law
use Rattle.ts_vector.proofs.laws.bad_bytes_are_no_encoding.Goals as goal

pub returns : goal.returns
returns c = law.bad_bytes_are_no_encoding
