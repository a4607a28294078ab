-- What the faults of a log and of a record are to an opening.
use Rattle.buffer_frames.specs.declared.error.OpenFault.{OpenFault}
use Rattle.buffer_frames.specs.declared.error.OpenFault.TheVariants.{NotAStore, DiskFault, OutOfMemory}
use Rattle.record_code.specs.declared.error.RecordError.{RecordError}
use Rattle.record_code.specs.declared.error.RecordError.TheVariants as records
use Rattle.wal.specs.declared.error.ReadError.{ReadError}
use Rattle.wal.specs.declared.error.ReadError.TheVariants as logs

abbrev pub fault_of_log : ReadError → OpenFault
fault_of_log logs.OutOfMemory = OutOfMemory
fault_of_log logs.NotAStore = NotAStore
fault_of_log logs.DiskFault = DiskFault

abbrev pub fault_of_record : RecordError → OpenFault
fault_of_record (records.BadRecord at) = NotAStore
fault_of_record records.OutOfMemory = OutOfMemory
