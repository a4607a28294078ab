-- The refusals of a log, as those of a journal.
use Rattle.wal.specs.declared.error.AppendError.{AppendError}
use Rattle.wal.specs.declared.error.AppendError.TheVariants as appending
use Rattle.wal.specs.declared.error.FlushError.{FlushError}
use Rattle.wal.specs.declared.error.FlushError.TheVariants as flushing
use Rattle.buffer_frames.specs.declared.log_error.LogError.{LogError}
use Rattle.buffer_frames.specs.declared.log_error.LogError.TheVariants.{DiskFault, LogFull, Down, OutOfMemory}

abbrev pub append_refusal : AppendError → LogError
append_refusal appending.LogFull = LogFull
append_refusal (appending.Down f) = Down f
append_refusal appending.OutOfMemory = OutOfMemory

abbrev pub flush_refusal : FlushError → LogError
flush_refusal flushing.DiskFault = DiskFault
flush_refusal (flushing.Down f) = Down f
