-- The log is asked.
use Rattle.wal.specs.Waiting.{down_of}
use Rattle.gin_scan.proofs.ListCalls.{looks, down_told}
use Rattle.gin_scan.proofs.scan_core.look_on.Goals as goal

pub returns-clause-looks : goal.returns-clause-looks
returns-clause-looks g c =
    let e = c.look.ensures in
    looks g.D.Disk c.args.frames.now c.look.new.self c.args.pass.now c.look.new.pass e.pass e.holding e.added e.keeps
    e.rises e.runs_on e.begins e.state e.pins e.others e.calm

pub returns-clause-error : goal.returns-clause-error
returns-clause-error g c =
    down_told c.look.result (down_of c.args.frames.now.journal.wal) c.look.ensures.error c.look.ensures.is_down
