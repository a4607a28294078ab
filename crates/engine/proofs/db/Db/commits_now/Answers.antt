-- The commits.
use Rattle.std.proofs.Common.{refl, ◌≡◌, [], sym, ap, subst, ◌∙◌}
use Rattle.std.specs.Prelude.{Vec, Result, Err, IfErr}
use Rattle.std.specs.declared.alloc.Global.{Global}
use Rattle.std.proofs.lemmas.Result.{err_from_is_err_and}
use Rattle.wal.specs.Waiting.{down_of}
use Rattle.buffer_frames.specs.Frames.{FramesValue}
use Rattle.buffer_frames.specs.Journals.{JournalValue}
use Rattle.engine.specs.Answers.{HasListed, MeetsNoBadPage}
use Rattle.engine.specs.Causes.{IsDown}
use Rattle.engine.specs.Db.{DbValue, flushed_of, IsUp}
use Rattle.engine.specs.declared.commit_names.CommitNames.{CommitNames}
use Rattle.engine.specs.Going.{Goes, FaultIsTold}
use Rattle.engine.specs.Inner.Refusals.{frame_refusal}
use Rattle.engine.specs.declared.error.DbError.{DbError}
use Rattle.engine.proofs.Paths.{one_nothing, pin_step, unpin_step}
use Rattle.engine.proofs.ReadSteps.{if_err}
use Rattle.engine.proofs.IndexReads.{list_meets}
use Rattle.engine.proofs.Starting.{up_at_pin}
use Rattle.engine.proofs.Searching.{rests, session_after, snapshot_after, read_path, read_told, listed}
use Rattle.engine.proofs.db.Db.commits_now.Goals as goal

pub returns-in_err-snapshot-clause-session : goal.returns-in_err-snapshot-clause-session
returns-in_err-snapshot-clause-session g c =
    let b : DbValue g.row.D.Denot = record { frames = c.pin.new.self; pending = c.self.inside.pending } in
    let p = c.in_err-snapshot.ensures.refused in
    let d = c.in_err-snapshot.ensures.error in
    let down : IsDown c.args.self.now d.0 =
    subst (λ (s : DbValue g.row.D.Denot). IsDown s d.0) c.self.view_is
    ((c.pin.ensures.is_down d.0).0 (c.in_err-snapshot.was ∙ ap Err d.1)) in
    let same : b ≡ c.args.self.now =
    ap (λ (f : FramesValue g.row.D.Denot). let s : DbValue g.row.D.Denot = record {
      frames = f;
      pending = c.self.inside.pending;
    } in s) p.0
    ∙ c.self.view_is in
    let k = rests g.D.Disk c.args.self.now b c.args.pass.now c.pin.new.pass d.0 c.requires.session down same p.1 in
    k.session

pub returns-in_err-snapshot-clause-listed : goal.returns-in_err-snapshot-clause-listed
returns-in_err-snapshot-clause-listed g c =
    let b : DbValue g.row.D.Denot = record { frames = c.pin.new.self; pending = c.self.inside.pending } in
    let p = c.in_err-snapshot.ensures.refused in
    let d = c.in_err-snapshot.ensures.error in
    let down : IsDown c.args.self.now d.0 =
    subst (λ (s : DbValue g.row.D.Denot). IsDown s d.0) c.self.view_is
    ((c.pin.ensures.is_down d.0).0 (c.in_err-snapshot.was ∙ ap Err d.1)) in
    let same : b ≡ c.args.self.now =
    ap (λ (f : FramesValue g.row.D.Denot). let s : DbValue g.row.D.Denot = record {
      frames = f;
      pending = c.self.inside.pending;
    } in s) p.0
    ∙ c.self.view_is in
    let k = rests g.D.Disk c.args.self.now b c.args.pass.now c.pin.new.pass d.0 c.requires.session down same p.1 in
    let q = err_from_is_err_and c.from_residual.result c.from_residual.ensures.1 in
    subst (λ (r : Result (Vec CommitNames Global) DbError). HasListed g.D.Disk c.args.self.now b r)
    (sym (q.1 ∙ ap Err (q.2 ∙ ap frame_refusal d.1))) (down, k.same)

pub returns-in_err-snapshot-clause-snapshot : goal.returns-in_err-snapshot-clause-snapshot
returns-in_err-snapshot-clause-snapshot g c =
    let b : DbValue g.row.D.Denot = record { frames = c.pin.new.self; pending = c.self.inside.pending } in
    let p = c.in_err-snapshot.ensures.refused in
    let d = c.in_err-snapshot.ensures.error in
    let down : IsDown c.args.self.now d.0 =
    subst (λ (s : DbValue g.row.D.Denot). IsDown s d.0) c.self.view_is
    ((c.pin.ensures.is_down d.0).0 (c.in_err-snapshot.was ∙ ap Err d.1)) in
    let same : b ≡ c.args.self.now =
    ap (λ (f : FramesValue g.row.D.Denot). let s : DbValue g.row.D.Denot = record {
      frames = f;
      pending = c.self.inside.pending;
    } in s) p.0
    ∙ c.self.view_is in
    let k = rests g.D.Disk c.args.self.now b c.args.pass.now c.pin.new.pass d.0 c.requires.session down same p.1 in
    k.snapshot

pub returns-in_err-snapshot-clause-path : goal.returns-in_err-snapshot-clause-path
returns-in_err-snapshot-clause-path g c =
    let b : DbValue g.row.D.Denot = record { frames = c.pin.new.self; pending = c.self.inside.pending } in
    let p = c.in_err-snapshot.ensures.refused in
    let d = c.in_err-snapshot.ensures.error in
    let down : IsDown c.args.self.now d.0 =
    subst (λ (s : DbValue g.row.D.Denot). IsDown s d.0) c.self.view_is
    ((c.pin.ensures.is_down d.0).0 (c.in_err-snapshot.was ∙ ap Err d.1)) in
    let same : b ≡ c.args.self.now =
    ap (λ (f : FramesValue g.row.D.Denot). let s : DbValue g.row.D.Denot = record {
      frames = f;
      pending = c.self.inside.pending;
    } in s) p.0
    ∙ c.self.view_is in
    let k = rests g.D.Disk c.args.self.now b c.args.pass.now c.pin.new.pass d.0 c.requires.session down same p.1 in
    k.path

pub returns-in_err-snapshot-clause-fault : goal.returns-in_err-snapshot-clause-fault
returns-in_err-snapshot-clause-fault g c =
    let b : DbValue g.row.D.Denot = record { frames = c.pin.new.self; pending = c.self.inside.pending } in
    let p = c.in_err-snapshot.ensures.refused in
    let d = c.in_err-snapshot.ensures.error in
    let down : IsDown c.args.self.now d.0 =
    subst (λ (s : DbValue g.row.D.Denot). IsDown s d.0) c.self.view_is
    ((c.pin.ensures.is_down d.0).0 (c.in_err-snapshot.was ∙ ap Err d.1)) in
    let same : b ≡ c.args.self.now =
    ap (λ (f : FramesValue g.row.D.Denot). let s : DbValue g.row.D.Denot = record {
      frames = f;
      pending = c.self.inside.pending;
    } in s) p.0
    ∙ c.self.view_is in
    let k = rests g.D.Disk c.args.self.now b c.args.pass.now c.pin.new.pass d.0 c.requires.session down same p.1 in
    let q = err_from_is_err_and c.from_residual.result c.from_residual.ensures.1 in
    subst (λ (r : Result (Vec CommitNames Global) DbError). FaultIsTold g.D.Disk c.args.self.now b r)
    (sym (q.1 ∙ ap Err (q.2 ∙ ap frame_refusal d.1))) k.none

pub list-listed-requires-clause-up : goal.list-listed-requires-clause-up
list-listed-requires-clause-up g c =
    let a : DbValue g.row.D.Denot = record { frames = c.self.inside.frames; pending = c.self.inside.pending } in
    let m : DbValue g.row.D.Denot = record { frames = c.pin.new.self; pending = c.self.inside.pending } in
    let e = c.pin.ensures.keeps in
    let begins : Goes g.D.Disk c.args.self.now m [] =
    subst (λ (s : DbValue g.row.D.Denot). Goes g.D.Disk s m []) c.self.view_is
    (one_nothing g.D.Disk (pin_step g.D.Disk a m refl e.added e.journal e.begins c.in_ok-snapshot.ensures.pinned)) in
    let same : m.frames.journal ≡ c.args.self.now.frames.journal =
    e.journal ∙ ap (λ (s : DbValue g.row.D.Denot). s.frames.journal) c.self.view_is in
    let n = c.in_ok-snapshot.snapshot in
    let pinned = c.in_ok-snapshot.ensures.pinned in
    let up : IsUp c.args.self.now =
    subst IsUp c.self.view_is
    (up_at_pin (down_of c.self.inside.frames.journal.wal) c.pin.result n c.pin.ensures.is_down c.in_ok-snapshot.was) in
    ap (λ (j : JournalValue g.row.D.Denot). down_of j.wal) same ∙ up

pub returns-clause-session : goal.returns-clause-session
returns-clause-session g c =
    let a : DbValue g.row.D.Denot = record { frames = c.self.inside.frames; pending = c.self.inside.pending } in
    let m : DbValue g.row.D.Denot = record { frames = c.pin.new.self; pending = c.self.inside.pending } in
    let e = c.pin.ensures.keeps in
    let begins : Goes g.D.Disk c.args.self.now m [] =
    subst (λ (s : DbValue g.row.D.Denot). Goes g.D.Disk s m []) c.self.view_is
    (one_nothing g.D.Disk (pin_step g.D.Disk a m refl e.added e.journal e.begins c.in_ok-snapshot.ensures.pinned)) in
    let same : m.frames.journal ≡ c.args.self.now.frames.journal =
    e.journal ∙ ap (λ (s : DbValue g.row.D.Denot). s.frames.journal) c.self.view_is in
    let n = c.in_ok-snapshot.snapshot in
    let pinned = c.in_ok-snapshot.ensures.pinned in
    let s : DbValue g.row.D.Denot = record { frames = c.self-2.inside.frames; pending = c.self-2.inside.pending } in
    let b : DbValue g.row.D.Denot = record { frames = c.unpin.new.self; pending = c.self-2.inside.pending } in
    let u = c.unpin.ensures in
    let ends : Goes g.D.Disk c.list-listed.new.self b [] =
    subst (λ (s : DbValue g.row.D.Denot). Goes g.D.Disk s b []) c.self-2.view_is
    (one_nothing g.D.Disk
    (unpin_step g.D.Disk s b refl c.list-listed.new.pass.pin u.keeps.added u.keeps.journal u.keeps.begins u.pins)) in
    let kept : b.frames.journal ≡ c.list-listed.new.self.frames.journal =
    u.keeps.journal ∙ ap (λ (s : DbValue g.row.D.Denot). s.frames.journal) c.self-2.view_is in
    session_after c.args.self.now b c.args.pass.now c.pin.new.pass c.list-listed.new.pass c.unpin.new.pass
    c.requires.session e.same.2 c.list-listed.ensures.keeps.xid c.list-listed.ensures.reading.held u.keeps.same.0
    u.keeps.same.2
    u.none u.pass

pub returns-clause-listed : goal.returns-clause-listed
returns-clause-listed g c =
    let a : DbValue g.row.D.Denot = record { frames = c.self.inside.frames; pending = c.self.inside.pending } in
    let m : DbValue g.row.D.Denot = record { frames = c.pin.new.self; pending = c.self.inside.pending } in
    let e = c.pin.ensures.keeps in
    let begins : Goes g.D.Disk c.args.self.now m [] =
    subst (λ (s : DbValue g.row.D.Denot). Goes g.D.Disk s m []) c.self.view_is
    (one_nothing g.D.Disk (pin_step g.D.Disk a m refl e.added e.journal e.begins c.in_ok-snapshot.ensures.pinned)) in
    let same : m.frames.journal ≡ c.args.self.now.frames.journal =
    e.journal ∙ ap (λ (s : DbValue g.row.D.Denot). s.frames.journal) c.self.view_is in
    let n = c.in_ok-snapshot.snapshot in
    let pinned = c.in_ok-snapshot.ensures.pinned in
    let up : IsUp c.args.self.now =
    subst IsUp c.self.view_is
    (up_at_pin (down_of c.self.inside.frames.journal.wal) c.pin.result n c.pin.ensures.is_down c.in_ok-snapshot.was) in
    let s : DbValue g.row.D.Denot = record { frames = c.self-2.inside.frames; pending = c.self-2.inside.pending } in
    let b : DbValue g.row.D.Denot = record { frames = c.unpin.new.self; pending = c.self-2.inside.pending } in
    let u = c.unpin.ensures in
    let ends : Goes g.D.Disk c.list-listed.new.self b [] =
    subst (λ (s : DbValue g.row.D.Denot). Goes g.D.Disk s b []) c.self-2.view_is
    (one_nothing g.D.Disk
    (unpin_step g.D.Disk s b refl c.list-listed.new.pass.pin u.keeps.added u.keeps.journal u.keeps.begins u.pins)) in
    let kept : b.frames.journal ≡ c.list-listed.new.self.frames.journal =
    u.keeps.journal ∙ ap (λ (s : DbValue g.row.D.Denot). s.frames.journal) c.self-2.view_is in
    let all : n ≡ flushed_of c.args.self.now =
    pinned.commits ∙ ap (λ (j : JournalValue g.row.D.Denot). j.flushed) same in
    listed g.D.Disk c.args.self.now m c.list-listed.new.self b begins c.list-listed.ensures.goes ends same kept n up all
    c.list-listed.result c.list-listed.ensures.listed c.list-listed.ensures.cause
    (read_told g.D.Disk c.args.self.now m c.list-listed.new.self b begins c.list-listed.ensures.goes ends same kept
    c.list-listed.result c.list-listed.ensures.fault)

pub returns-clause-snapshot : goal.returns-clause-snapshot
returns-clause-snapshot g c =
    let a : DbValue g.row.D.Denot = record { frames = c.self.inside.frames; pending = c.self.inside.pending } in
    let m : DbValue g.row.D.Denot = record { frames = c.pin.new.self; pending = c.self.inside.pending } in
    let e = c.pin.ensures.keeps in
    let begins : Goes g.D.Disk c.args.self.now m [] =
    subst (λ (s : DbValue g.row.D.Denot). Goes g.D.Disk s m []) c.self.view_is
    (one_nothing g.D.Disk (pin_step g.D.Disk a m refl e.added e.journal e.begins c.in_ok-snapshot.ensures.pinned)) in
    let same : m.frames.journal ≡ c.args.self.now.frames.journal =
    e.journal ∙ ap (λ (s : DbValue g.row.D.Denot). s.frames.journal) c.self.view_is in
    let n = c.in_ok-snapshot.snapshot in
    let pinned = c.in_ok-snapshot.ensures.pinned in
    let s : DbValue g.row.D.Denot = record { frames = c.self-2.inside.frames; pending = c.self-2.inside.pending } in
    let b : DbValue g.row.D.Denot = record { frames = c.unpin.new.self; pending = c.self-2.inside.pending } in
    let u = c.unpin.ensures in
    let ends : Goes g.D.Disk c.list-listed.new.self b [] =
    subst (λ (s : DbValue g.row.D.Denot). Goes g.D.Disk s b []) c.self-2.view_is
    (one_nothing g.D.Disk
    (unpin_step g.D.Disk s b refl c.list-listed.new.pass.pin u.keeps.added u.keeps.journal u.keeps.begins u.pins)) in
    let kept : b.frames.journal ≡ c.list-listed.new.self.frames.journal =
    u.keeps.journal ∙ ap (λ (s : DbValue g.row.D.Denot). s.frames.journal) c.self-2.view_is in
    snapshot_after c.args.self.now m b c.self.inside.frames c.args.pass.now c.pin.new.pass c.list-listed.new.pass
    c.unpin.new.pass n c.requires.session same pinned e.rises e.same.1 c.list-listed.ensures.keeps.room
    c.list-listed.ensures.keeps.shown u.keeps.rises u.keeps.same.1
    u.pass

pub returns-clause-path : goal.returns-clause-path
returns-clause-path g c =
    let a : DbValue g.row.D.Denot = record { frames = c.self.inside.frames; pending = c.self.inside.pending } in
    let m : DbValue g.row.D.Denot = record { frames = c.pin.new.self; pending = c.self.inside.pending } in
    let e = c.pin.ensures.keeps in
    let begins : Goes g.D.Disk c.args.self.now m [] =
    subst (λ (s : DbValue g.row.D.Denot). Goes g.D.Disk s m []) c.self.view_is
    (one_nothing g.D.Disk (pin_step g.D.Disk a m refl e.added e.journal e.begins c.in_ok-snapshot.ensures.pinned)) in
    let same : m.frames.journal ≡ c.args.self.now.frames.journal =
    e.journal ∙ ap (λ (s : DbValue g.row.D.Denot). s.frames.journal) c.self.view_is in
    let n = c.in_ok-snapshot.snapshot in
    let pinned = c.in_ok-snapshot.ensures.pinned in
    let s : DbValue g.row.D.Denot = record { frames = c.self-2.inside.frames; pending = c.self-2.inside.pending } in
    let b : DbValue g.row.D.Denot = record { frames = c.unpin.new.self; pending = c.self-2.inside.pending } in
    let u = c.unpin.ensures in
    let ends : Goes g.D.Disk c.list-listed.new.self b [] =
    subst (λ (s : DbValue g.row.D.Denot). Goes g.D.Disk s b []) c.self-2.view_is
    (one_nothing g.D.Disk
    (unpin_step g.D.Disk s b refl c.list-listed.new.pass.pin u.keeps.added u.keeps.journal u.keeps.begins u.pins)) in
    let kept : b.frames.journal ≡ c.list-listed.new.self.frames.journal =
    u.keeps.journal ∙ ap (λ (s : DbValue g.row.D.Denot). s.frames.journal) c.self-2.view_is in
    read_path g.D.Disk c.args.self.now m c.list-listed.new.self b begins c.list-listed.ensures.goes ends

pub returns-clause-fault : goal.returns-clause-fault
returns-clause-fault g c =
    let a : DbValue g.row.D.Denot = record { frames = c.self.inside.frames; pending = c.self.inside.pending } in
    let m : DbValue g.row.D.Denot = record { frames = c.pin.new.self; pending = c.self.inside.pending } in
    let e = c.pin.ensures.keeps in
    let begins : Goes g.D.Disk c.args.self.now m [] =
    subst (λ (s : DbValue g.row.D.Denot). Goes g.D.Disk s m []) c.self.view_is
    (one_nothing g.D.Disk (pin_step g.D.Disk a m refl e.added e.journal e.begins c.in_ok-snapshot.ensures.pinned)) in
    let same : m.frames.journal ≡ c.args.self.now.frames.journal =
    e.journal ∙ ap (λ (s : DbValue g.row.D.Denot). s.frames.journal) c.self.view_is in
    let n = c.in_ok-snapshot.snapshot in
    let pinned = c.in_ok-snapshot.ensures.pinned in
    let s : DbValue g.row.D.Denot = record { frames = c.self-2.inside.frames; pending = c.self-2.inside.pending } in
    let b : DbValue g.row.D.Denot = record { frames = c.unpin.new.self; pending = c.self-2.inside.pending } in
    let u = c.unpin.ensures in
    let ends : Goes g.D.Disk c.list-listed.new.self b [] =
    subst (λ (s : DbValue g.row.D.Denot). Goes g.D.Disk s b []) c.self-2.view_is
    (one_nothing g.D.Disk
    (unpin_step g.D.Disk s b refl c.list-listed.new.pass.pin u.keeps.added u.keeps.journal u.keeps.begins u.pins)) in
    let kept : b.frames.journal ≡ c.list-listed.new.self.frames.journal =
    u.keeps.journal ∙ ap (λ (s : DbValue g.row.D.Denot). s.frames.journal) c.self-2.view_is in
    read_told g.D.Disk c.args.self.now m c.list-listed.new.self b begins c.list-listed.ensures.goes ends same kept
    c.list-listed.result c.list-listed.ensures.fault

pub returns-in_err-snapshot-clause-lawful : goal.returns-in_err-snapshot-clause-lawful
returns-in_err-snapshot-clause-lawful g c =
    let d = c.in_err-snapshot.ensures.error in
    let q = err_from_is_err_and c.from_residual.result c.from_residual.ensures.1 in
    subst (λ (r : Result (Vec CommitNames Global) DbError). IfErr r (λ e. MeetsNoBadPage g.D.Disk c.args.self.now e))
    (sym (q.1 ∙ ap Err (q.2 ∙ ap frame_refusal d.1))) tt

pub returns-clause-lawful : goal.returns-clause-lawful
returns-clause-lawful g c =
    if_err c.list-listed.result (list_meets g.D.Disk c.args.self.now) c.list-listed.ensures.cause
