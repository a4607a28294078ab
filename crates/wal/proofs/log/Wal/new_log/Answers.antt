use Rattle.std.proofs.Common.{◌≡◌, ◌∙◌, ap, sym, List, ℕ, take, length, false, []}
use Rattle.std.specs.Prelude.{Result, Ok, Err, OnOk}
use Rattle.std.proofs.lemmas.Result.{IfOk-weaker}
use Rattle.wal.specs.Creating.{created}
use Rattle.wal.specs.Waiting.{end_of}
use Rattle.wal.specs.Reading.{IsReading}
use Rattle.wal.proofs.Begun.{made_new, new_before}
use Rattle.wal.proofs.Walking.{begun}
use Rattle.wal.proofs.log.Wal.new_log.Goals as goal

at_ok : {T E P : Type 0} (r : Result T E) → P → OnOk r P
at_ok (Ok x) p = p
at_ok (Err e) p = tt

pub returns-in_err-create-clause-any_moment : goal.returns-in_err-create-clause-any_moment
returns-in_err-create-clause-any_moment g c = λ told.
    new_before g.D.Disk c.args.disk.now c.create.new.disk (c.requires.unborn told).0 (c.create.ensures.any_moment told)

pub returns-clause-any_moment : goal.returns-clause-any_moment
returns-clause-any_moment g c = λ told.
    new_before g.D.Disk c.args.disk.now c.create.new.disk (c.requires.unborn told).0 (c.create.ensures.any_moment told)

pub returns-clause-made : goal.returns-clause-made
returns-clause-made g c = λ told.
    at_ok c.at_start.result (made_new g.D.Disk c.args.disk.now c.create.new.disk (c.requires.unborn told).0
    (c.in_ok-create.ensures.stands told) (c.in_ok-create.ensures.pages told))

pub returns-clause-reading : goal.returns-clause-reading
returns-clause-reading g c = λ told.
    let log : List ℕ = (g.D.Disk.seen c.create.new.disk).log in
    let is : log ≡ created = (c.in_ok-create.ensures.stands told).now in
    let long : 18 ≡ length log = sym (ap length is) in
    IfOk-weaker c.at_start.result (λ wal. (wal.ended ≡ false) × (wal.size ≡ 18) × (end_of wal ≡ 17))
    (λ wal. IsReading wal log [])
    (λ wal start. begun wal log start.0 (start.1 ∙ long) start.2 (ap (take 17) is)) c.at_start.ensures.start
