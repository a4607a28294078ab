use Rattle.std.proofs.Common.{◌≡◌, ◌∙◌, List, ℕ, take, length, false, []}
use Rattle.std.proofs.lemmas.Result.{IfOk-weaker}
use Rattle.wal.specs.Batches.{header}
use Rattle.wal.specs.Waiting.{end_of}
use Rattle.wal.specs.Reading.{IsReading}
use Rattle.wal.proofs.Walking.{begun}
use Rattle.wal.proofs.log.Wal.open.Goals as goal

pub returns-in-Header-clause-reading : goal.returns-in-Header-clause-reading
returns-in-Header-clause-reading g c = λ told.
    let log : List ℕ = (g.D.Disk.seen c.args.disk.now).log in
    let so : (c.in-Header.size ≡ length log) × (take 17 log ≡ header) =
    rw c.in-Header.is at (c.in_ok-size.ensures.so told) in
    IfOk-weaker c.at_start.result (λ wal. (wal.ended ≡ false) × (wal.size ≡ c.in-Header.size) × (end_of wal ≡ 17))
    (λ wal. IsReading wal log [])
    (λ wal start. begun wal log start.0 (start.1 ∙ so.0) start.2 so.1) c.at_start.ensures.start
