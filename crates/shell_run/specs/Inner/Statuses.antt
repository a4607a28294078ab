-- The statuses of a run that stops, and of one that ends.
use Rattle.std.specs.Prelude.{ℕ, Bool, true, false}
use Rattle.engine.specs.Opening as opening
use Rattle.engine.specs.Opening.{OpenFault}
use Rattle.shell_run.specs.declared.error.Stop.{Stop}
use Rattle.shell_run.specs.declared.error.Stop.TheVariants.{SourceFault, TooLong, NotAStore, DiskFault, SinkFault}
use Rattle.shell_run.specs.declared.error.Stop.TheVariants.{OutOfMemory}

-- the status of a run that stopped
abbrev pub stop_number : Stop → ℕ
stop_number SourceFault = 6
stop_number TooLong = 8
stop_number NotAStore = 4
stop_number DiskFault = 3
stop_number SinkFault = 7
stop_number OutOfMemory = 5

-- the status of a run that ended: whether the device failed in it, and whether a reply was a
-- refusal
abbrev pub ending_number : Bool → Bool → ℕ
ending_number true refused = 3
ending_number false true = 1
ending_number false false = 0

-- why a run stops where the opening is refused
abbrev pub stop_at : OpenFault → Stop
stop_at opening.NotAStore = NotAStore
stop_at opening.DiskFault = DiskFault
stop_at opening.OutOfMemory = OutOfMemory
