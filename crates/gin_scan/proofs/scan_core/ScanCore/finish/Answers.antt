-- What was found is given.
use Rattle.std.proofs.Common.{refl, arith}
use Rattle.gin_scan.proofs.Ended.{has_found}
use Rattle.gin_scan.proofs.ReadCalls.{none_added}
use Rattle.gin_scan.proofs.scan_core.ScanCore.finish.Goals as goal

pub returns-clause-found : goal.returns-clause-found
returns-clause-found g c = λ q sound asks scan.
    has_found g.D.Disk _ sound q c.args.frames.now c.give_up.new.frames c.args.pass.now c.args.self _
    c.requires.scanning.is_pass (none_added g.D.Disk c.args.frames.now c.give_up.new.frames c.give_up.ensures.ends.adds)
    c.requires.end scan refl refl (omega (arith, c.len.ensures, c.args.self.kept.ok)) refl
