use Rattle.ts_base.proofs.Encoding.{encoding_tells_vector}
use Rattle.ts_vector.proofs.Decoding.{bad_bytes_are_no_encoding}
use Rattle.ts_match.specs.Meaning.{Holds}
use Rattle.gin_scan.proofs.BytesTold.{tells_of, tells_none}
use Rattle.gin_scan.proofs.check.matches_bytes.Goals as goal

pub returns-in-Ok-clause-tells : goal.returns-in-Ok-clause-tells
returns-in-Ok-clause-tells c =
    tells_of (Holds c.args.query.now) c.args.bytes.now c.in-Ok.vector c.matches_encoded.result
    encoding_tells_vector c.in-Ok.ensures.value c.matches_encoded.ensures.meaning

pub returns-in-Err-clause-tells : goal.returns-in-Err-clause-tells
returns-in-Err-clause-tells c =
    tells_none (Holds c.args.query.now) c.args.bytes.now c.in-Err.field-0
    bad_bytes_are_no_encoding c.in-Err.ensures.cause
