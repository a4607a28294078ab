-- A page that was deleted keeps its rows.
use Rattle.std.proofs.Common.{rules}
use Rattle.gin_scan.proofs.pending.kept_rows.Goals as goal

pub returns-in-Deleted-Pending : goal.returns-in-Deleted-Pending
returns-in-Deleted-Pending c = record { some = search rules; none = tt }
