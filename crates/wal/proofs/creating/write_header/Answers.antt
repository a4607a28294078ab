use Rattle.std.proofs.Common.{[], arith}
use Rattle.disk_trait.specs.Files.{Files}
use Rattle.disk_trait.proofs.Runs.{then, weaker_run}
use Rattle.wal.specs.Batches.{IsUnborn, Opens}
use Rattle.wal.specs.Creating.{From}
use Rattle.wal.proofs.Born.{unborn_opens, from_both}
use Rattle.wal.proofs.creating.write_header.Goals as goal

pub returns-in_err-unset-clause-any_moment : goal.returns-in_err-unset-clause-any_moment
returns-in_err-unset-clause-any_moment g c = λ told.
    let asked = c.requires told in
    weaker_run g.D.Disk c.args.disk.now c.unset.new.disk _ _ (c.unset.ensures.any_moment told asked.0 asked.1)
    (unborn_opens (g.D.Disk.image c.args.disk.now (g.D.Disk.clock c.args.disk.now)))

pub returns-clause-any_moment : goal.returns-clause-any_moment
returns-clause-any_moment g c = λ told.
    let asked = c.requires told in
    let old = g.D.Disk.image c.args.disk.now (g.D.Disk.clock c.args.disk.now) in
    let mid = c.unset.new.disk in
    let run = c.unset.ensures.any_moment told asked.0 asked.1 in
    let P : Files → Type 0 = From old (λ l. Opens l []) in
    then g.D.Disk c.args.disk.now mid c.write_name.new.disk P _
    (weaker_run g.D.Disk c.args.disk.now mid _ _ run (unborn_opens old))
    (c.write_name.ensures.any_moment told (c.in_ok-unset.ensures.commit_byte told asked.0)
    (c.in_ok-unset.ensures.durable told asked.0 asked.1))
    (from_both old (g.D.Disk.image mid (g.D.Disk.clock mid)) IsUnborn (λ l. Opens l [])
    (λ d now. run.each (g.D.Disk.clock mid) d run.later (omega arith) now))
