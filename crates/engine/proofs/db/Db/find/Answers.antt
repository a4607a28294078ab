-- A search: a scan begins in the snapshot, is stepped to its end, and ends.
use Rattle.std.proofs.Common.{◌≡◌, refl, ap, subst, ◌∙◌}
use Rattle.wal.specs.Waiting.{down_of}
use Rattle.buffer_frames.specs.Journals.{JournalValue}
use Rattle.buffer_frames.specs.Passes.{pin_in}
use Rattle.gin_opclass.specs.Class.{meaning}
use Rattle.ts_query.specs.Queries.{Query}
use Rattle.ts_match.specs.Meaning.{Holds}
use Rattle.ts_match.specs.Judging.{judged}
use Rattle.ts_match.specs.Class.{asked_of, reads_all}
use Rattle.engine.specs.Db.{DbValue, fault_of, IsUp}
use Rattle.engine.specs.Going.{MetNoFault}
use Rattle.engine.specs.Coming.{ComesToBadPage}
use Rattle.engine.specs.Inner.Finds.{ReadsOn, EndsReading, FindsAll}
use Rattle.engine.proofs.Paths.{calm_fault}
use Rattle.engine.proofs.IndexReads.{store_of, pin_taken, begun_by, ends_now, scan_ends, find_later}
use Rattle.engine.proofs.IndexReads.{meets_later, comes_later, finds_by}
use Rattle.engine.proofs.db.Db.find.Goals as goal

pub within-requires-clause-taken : goal.within-requires-clause-taken
within-requires-clause-taken g c =
    pin_taken c.args.pass.now.pin c.args.commits c.requires.reading.taken c.requires.reading.snapshot

pub returns-in_err-scan-clause-reads : goal.returns-in_err-scan-clause-reads
returns-in_err-scan-clause-reads g c =
    let a : DbValue g.row.D.Denot = store_of c.self.inside.pending c.self.inside.frames in
    let m : DbValue g.row.D.Denot = store_of c.self.inside.pending c.within.new.frames in
    let e = c.within.ensures in
    subst (λ (s : DbValue g.row.D.Denot). EndsReading g.D.Disk s c.args.pass.now m c.within.new.pass) c.self.view_is
    (ends_now g.D.Disk a m c.args.pass.now c.within.new.pass
    (begun_by g.D.Disk a m refl c.args.pass.now c.within.new.pass e.reads.is_pass e.reads.held e.reads.adds
    e.reads.lying
    e.reads.keeps e.pin))

pub returns-in-Ok-clause-reads : goal.returns-in-Ok-clause-reads
returns-in-Ok-clause-reads g c =
    let a : DbValue g.row.D.Denot = store_of c.self.inside.pending c.self.inside.frames in
    let m : DbValue g.row.D.Denot = store_of c.self.inside.pending c.within.new.frames in
    let e = c.within.ensures in
    let begun : ReadsOn g.D.Disk c.args.self.now c.args.pass.now m c.within.new.pass =
    subst (λ (s : DbValue g.row.D.Denot). ReadsOn g.D.Disk s c.args.pass.now m c.within.new.pass) c.self.view_is
    (begun_by g.D.Disk a m refl c.args.pass.now c.within.new.pass e.reads.is_pass e.reads.held e.reads.adds
    e.reads.lying
    e.reads.keeps e.pin) in
    scan_ends g.D.Disk c.read_index.new.scan.core c.args.self.now m c.read_index.new.self
    (store_of c.self-2.inside.pending c.self-2.inside.frames)
    (store_of c.self-2.inside.pending c.finish.new.frames) refl c.args.pass.now c.within.new.pass
    c.read_index.new.pass c.finish.new.pass begun c.read_index.ensures.reads c.self-2.view_is c.finish.ensures.ends

pub returns-in-Ok-clause-found : goal.returns-in-Ok-clause-found
returns-in-Ok-clause-found g c =
    let a : DbValue g.row.D.Denot = store_of c.self.inside.pending c.self.inside.frames in
    let m : DbValue g.row.D.Denot = store_of c.self.inside.pending c.within.new.frames in
    let b : DbValue g.row.D.Denot = store_of c.self-2.inside.pending c.finish.new.frames in
    let e = c.within.ensures in
    let begun : ReadsOn g.D.Disk c.args.self.now c.args.pass.now m c.within.new.pass =
    subst (λ (s : DbValue g.row.D.Denot). ReadsOn g.D.Disk s c.args.pass.now m c.within.new.pass) c.self.view_is
    (begun_by g.D.Disk a m refl c.args.pass.now c.within.new.pass e.reads.is_pass e.reads.held e.reads.adds
    e.reads.lying
    e.reads.keeps e.pin) in
    let reads = scan_ends g.D.Disk c.read_index.new.scan.core c.args.self.now m c.read_index.new.self
    (store_of c.self-2.inside.pending c.self-2.inside.frames) b refl c.args.pass.now c.within.new.pass
    c.read_index.new.pass c.finish.new.pass begun c.read_index.ensures.reads c.self-2.view_is c.finish.ensures.ends in
    let up_m : IsUp m = e.reads.calm.down ∙ ap fault_of c.self.view_is ∙ c.requires.up in
    let met : MetNoFault g.D.Disk m c.read_index.new.self = c.in-Ok.ensures.fault in
    let up_b : IsUp b =
    ap (λ (j : JournalValue g.row.D.Denot). down_of j.wal) c.finish.ensures.ends.journal
    ∙ ap fault_of c.self-2.view_is ∙ met.down ∙ up_m in
    let pin =
    pin_taken c.args.pass.now.pin c.args.commits c.requires.reading.taken c.requires.reading.snapshot in
    let asked : c.read_index.new.scan.query.now ≡ c.args.query.now =
    c.read_index.ensures.same ∙ c.in_ok-scan.ensures.query.query in
    subst (λ (x : Query). FindsAll g.D.Disk c.args.self.now c.args.commits (Holds x) c.finish.result.names.items) asked
    (finds_by g.D.Disk (meaning asked_of reads_all Holds judged) c.read_index.new.scan.query.now c.args.self.now b
    c.args.commits c.read_index.new.pass.pin pin.0 c.finish.result reads.goes up_b
    (ap pin_in (c.read_index.ensures.reads.keeps.pin ∙ e.pin) ∙ pin.1) pin.2 c.finish.ensures.found)

pub returns-in-Err-clause-reads : goal.returns-in-Err-clause-reads
returns-in-Err-clause-reads g c =
    let a : DbValue g.row.D.Denot = store_of c.self.inside.pending c.self.inside.frames in
    let m : DbValue g.row.D.Denot = store_of c.self.inside.pending c.within.new.frames in
    let e = c.within.ensures in
    let begun : ReadsOn g.D.Disk c.args.self.now c.args.pass.now m c.within.new.pass =
    subst (λ (s : DbValue g.row.D.Denot). ReadsOn g.D.Disk s c.args.pass.now m c.within.new.pass) c.self.view_is
    (begun_by g.D.Disk a m refl c.args.pass.now c.within.new.pass e.reads.is_pass e.reads.held e.reads.adds
    e.reads.lying
    e.reads.keeps e.pin) in
    scan_ends g.D.Disk c.read_index.new.scan.core c.args.self.now m c.read_index.new.self
    (store_of c.self-2.inside.pending c.self-2.inside.frames)
    (store_of c.self-2.inside.pending c.drop_scan.new.frames) refl c.args.pass.now c.within.new.pass
    c.read_index.new.pass c.drop_scan.new.pass begun c.read_index.ensures.reads c.self-2.view_is
    c.drop_scan.ensures.ends

pub returns-in-Err-clause-cause : goal.returns-in-Err-clause-cause
returns-in-Err-clause-cause g c =
    let a : DbValue g.row.D.Denot = store_of c.self.inside.pending c.self.inside.frames in
    let m : DbValue g.row.D.Denot = store_of c.self.inside.pending c.within.new.frames in
    let e = c.within.ensures in
    let begun : ReadsOn g.D.Disk c.args.self.now c.args.pass.now m c.within.new.pass =
    subst (λ (s : DbValue g.row.D.Denot). ReadsOn g.D.Disk s c.args.pass.now m c.within.new.pass) c.self.view_is
    (begun_by g.D.Disk a m refl c.args.pass.now c.within.new.pass e.reads.is_pass e.reads.held e.reads.adds
    e.reads.lying
    e.reads.keeps e.pin) in
    find_later g.D.Disk c.args.self.now m c.in-Err.refusal begun.goes c.in-Err.ensures.cause

pub returns-in-Err-clause-lawful : goal.returns-in-Err-clause-lawful
returns-in-Err-clause-lawful g c =
    let a : DbValue g.row.D.Denot = store_of c.self.inside.pending c.self.inside.frames in
    let m : DbValue g.row.D.Denot = store_of c.self.inside.pending c.within.new.frames in
    let e = c.within.ensures in
    let begun : ReadsOn g.D.Disk c.args.self.now c.args.pass.now m c.within.new.pass =
    subst (λ (s : DbValue g.row.D.Denot). ReadsOn g.D.Disk s c.args.pass.now m c.within.new.pass) c.self.view_is
    (begun_by g.D.Disk a m refl c.args.pass.now c.within.new.pass e.reads.is_pass e.reads.held e.reads.adds
    e.reads.lying
    e.reads.keeps e.pin) in
    let met : MetNoFault g.D.Disk c.args.self.now m =
    subst (λ (s : DbValue g.row.D.Denot). MetNoFault g.D.Disk s m) c.self.view_is
    (calm_fault g.D.Disk a m e.reads.calm) in
    meets_later g.D.Disk c.args.self.now m c.in-Err.refusal begun.goes met c.in-Err.ensures.lawful

pub returns-in-Err-clause-way : goal.returns-in-Err-clause-way
returns-in-Err-clause-way g c =
    let a : DbValue g.row.D.Denot = store_of c.self.inside.pending c.self.inside.frames in
    let m : DbValue g.row.D.Denot = store_of c.self.inside.pending c.within.new.frames in
    let e = c.within.ensures in
    let begun : ReadsOn g.D.Disk c.args.self.now c.args.pass.now m c.within.new.pass =
    subst (λ (s : DbValue g.row.D.Denot). ReadsOn g.D.Disk s c.args.pass.now m c.within.new.pass) c.self.view_is
    (begun_by g.D.Disk a m refl c.args.pass.now c.within.new.pass e.reads.is_pass e.reads.held e.reads.adds
    e.reads.lying
    e.reads.keeps e.pin) in
    comes_later g.D.Disk c.args.query.now c.args.self.now m c.in-Err.refusal begun.goes
    (subst (λ (q : Query). ComesToBadPage g.D.Disk m q c.in-Err.refusal) c.in_ok-scan.ensures.query.query
    c.in-Err.ensures.way)
