use Rattle.std.specs.Prelude.{IfOk}
use Rattle.std.proofs.Common.{◌≡◌, ◌∙◌, ap, sym, subst, List, ℕ, take, length, false, []}
use Rattle.std.proofs.lemmas.Result.{IfOk-weaker}
use Rattle.disk_trait.specs.Files.{Files}
use Rattle.wal.specs.Batches.{header}
use Rattle.wal.specs.Waiting.{end_of}
use Rattle.wal.specs.Reading.{IsReading}
use Rattle.wal.proofs.Begun.{read_then_before}
use Rattle.wal.proofs.Walking.{begun}
use Rattle.wal.proofs.log.Wal.open_or_create.Goals as goal

pub returns-in-Header-clause-reading : goal.returns-in-Header-clause-reading
returns-in-Header-clause-reading g c = λ told.
    let log : List ℕ = (g.D.Disk.seen c.args.disk.now).log in
    let so : (c.in-Header.size ≡ length log) × (take 17 log ≡ header) =
    rw c.in-Header.is at (c.in_ok-size.ensures.so told) in
    let same : log ≡ (g.D.Disk.seen c.begins_how.new.disk).log =
    sym (ap (λ (f : Files). f.log) (c.begins_how.ensures.keeps.same told)) in
    subst (λ (l : List ℕ). IfOk c.at_start.result (λ wal. IsReading wal l [])) same
    (IfOk-weaker c.at_start.result (λ wal. (wal.ended ≡ false) × (wal.size ≡ c.in-Header.size) × (end_of wal ≡ 17))
    (λ wal. IsReading wal log [])
    (λ wal start. begun wal log start.0 (start.1 ∙ so.0) start.2 so.1) c.at_start.ensures.start)

pub returns-in-Unborn-clause-any_moment : goal.returns-in-Unborn-clause-any_moment
returns-in-Unborn-clause-any_moment g c = λ told.
    read_then_before g.D.Disk c.args.disk.now c.begins_how.new.disk c.new_log.new.disk told c.begins_how.ensures.keeps
    (c.requires.durable told) (c.new_log.ensures.any_moment told)
