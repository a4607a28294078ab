use Rattle.std.proofs.Common.{arith}
use Rattle.record_code.proofs.RecordReading.{is_found, is_read}
use Rattle.record_code.proofs.records.decode_record.Goals as goal

pub returns-clause-found : goal.returns-clause-found
returns-clause-found c =
    is_found c.args.bytes.now c.record_of.result (λ i. omega (arith, c.type_inv.bytes i)) c.record_of.ensures

pub returns-clause-only : goal.returns-clause-only
returns-clause-only c = is_read c.args.bytes.now c.record_of.result c.record_of.ensures
