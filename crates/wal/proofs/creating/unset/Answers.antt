use Rattle.std.proofs.Common.{◌<◌, length, rules, refl, sym, subst}
use Rattle.disk_trait.specs.Files.{Files}
use Rattle.disk_trait.proofs.Runs.{started, goes_on, then}
use Rattle.wal.specs.Batches.{IsUnborn}
use Rattle.wal.specs.Creating.{From}
use Rattle.wal.proofs.Born.{closing_torn}
use Rattle.wal.proofs.creating.unset.Goals as goal

pub returns-then-branch-lt-CREATED_BYTES-clause-any_moment : goal.returns-then-branch-lt-CREATED_BYTES-clause-any_moment
returns-then-branch-lt-CREATED_BYTES-clause-any_moment g c = λ told unborn log.
    let old = g.D.Disk.image c.args.disk.now (g.D.Disk.clock c.args.disk.now) in
    let P : Files → Type 0 = From old IsUnborn in
    let here : (f : Files) → old f → P f = λ f left. record {
      before = f;
      was = left;
      pages = refl;
      log = subst IsUnborn (sym (log.durable f left)) unborn;
    } in
    let mid = c.length.new.self in
    let first = goes_on g.D.Disk c.args.disk.now c.args.disk.now mid P (started g.D.Disk c.args.disk.now P here)
    c.length.ensures.time (λ f left. here f (c.length.ensures.crash told f left)) in
    let short : length (g.D.Disk.seen c.args.disk.now).log < 18 = search rules in
    then g.D.Disk c.args.disk.now mid c.write_and_sync.new.disk P _ first (c.write_and_sync.ensures.any_moment told)
    (λ f torn. let was = closing_torn (g.D.Disk.seen c.args.disk.now).log old short log.durable f
    (torn.0, c.length.ensures.crash told torn.0 torn.1, torn.2) in was)
