use Rattle.ts_vector.proofs.Decoding.{bad_bytes_are_no_encoding}
use Rattle.gin_scan.proofs.BytesTold.{encodes_some}
use Rattle.gin_scan.proofs.check.encode_vector.Goals as goal

pub returns : goal.returns
returns c =
    encodes_some c.args.bytes.now c.new-vector.result c.is_ok.result bad_bytes_are_no_encoding
    c.is_ok.ensures.value c.new-vector.ensures.value c.new-vector.ensures.cause
