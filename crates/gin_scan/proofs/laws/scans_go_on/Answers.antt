use Rattle.gin_scan.proofs.GoingOn.{go_on}
use Rattle.gin_scan.proofs.laws.scans_go_on.Goals as goal

pub returns : goal.returns
returns g c = go_on g.D.Disk _
