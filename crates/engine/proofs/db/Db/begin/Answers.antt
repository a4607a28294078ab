-- A statement begins.
use Rattle.std.proofs.Common.{◌≡◌, [], refl, sym, ap, subst, ◌∙◌}
use Rattle.std.specs.Prelude.{Option, Result, Err, IfErr, IfSome}
use Rattle.std.proofs.lemmas.Result.{err_from_is_err_and}
use Rattle.wal.specs.Waiting.{down_of}
use Rattle.buffer_frames.specs.Frames.{FramesValue}
use Rattle.buffer_frames.specs.Journals.{JournalValue}
use Rattle.buffer_frames.specs.declared.pass.Pass.{Pass}
use Rattle.buffer_frames.specs.declared.pass.Pinned.{Pinned}
use Rattle.buffer_frames.proofs.Exits.{on_refusal}
use Rattle.engine.specs.Answers.{IsResting, TakesSnapshot}
use Rattle.engine.specs.Causes.{IsDown}
use Rattle.engine.specs.Db.{DbValue, flushed_of, IsUp}
use Rattle.engine.specs.Going.{Goes}
use Rattle.engine.specs.Inner.Parts.{CannotBegin}
use Rattle.engine.specs.Inner.Refusals.{frame_refusal}
use Rattle.engine.specs.declared.transaction.Transaction.{Transaction}
use Rattle.engine.specs.declared.error.DbError.{DbError}
use Rattle.engine.proofs.Paths.{goes_on, one_nothing, pin_step, unpin_step}
use Rattle.engine.proofs.Starting.{up_at_pin, down_takes, begin_why, spent_kept, there_first}
use Rattle.engine.proofs.db.Db.begin.Goals as goal

pub returns-in_err-snapshot-clause-takes : goal.returns-in_err-snapshot-clause-takes
returns-in_err-snapshot-clause-takes g c =
    let b : DbValue g.row.D.Denot = record { frames = c.pin.new.self; pending = c.self.inside.pending } in
    let p = c.in_err-snapshot.ensures.refused in
    let d = c.in_err-snapshot.ensures.error in
    let down : IsDown c.args.self.now d.0 =
    subst (λ (s : DbValue g.row.D.Denot). IsDown s d.0) c.self.view_is
    ((c.pin.ensures.is_down d.0).0 (c.in_err-snapshot.was ∙ ap Err d.1)) in
    let same : b ≡ c.args.self.now =
    ap (λ (f : FramesValue g.row.D.Denot). let s : DbValue g.row.D.Denot = record {
      frames = f;
      pending = c.self.inside.pending;
    } in s) p.0
    ∙ c.self.view_is in
    subst (λ (s : DbValue g.row.D.Denot). TakesSnapshot c.args.self.now s c.args.pass.now c.pin.new.pass) (sym same)
    (subst (λ (q : Pass). TakesSnapshot c.args.self.now c.args.self.now c.args.pass.now q) (sym p.1)
    (down_takes c.args.self.now c.args.pass.now d.0 (c.requires.is_pass).shown down))

pub returns-in_err-snapshot-clause-refused : goal.returns-in_err-snapshot-clause-refused
returns-in_err-snapshot-clause-refused g c =
    let b : DbValue g.row.D.Denot = record { frames = c.pin.new.self; pending = c.self.inside.pending } in
    let p = c.in_err-snapshot.ensures.refused in
    let same : b ≡ c.args.self.now =
    ap (λ (f : FramesValue g.row.D.Denot). let s : DbValue g.row.D.Denot = record {
      frames = f;
      pending = c.self.inside.pending;
    } in s) p.0
    ∙ c.self.view_is in
    on_refusal _ c.from_residual.result
    (subst (λ (s : DbValue g.row.D.Denot). IsResting s c.pin.new.pass × Goes g.D.Disk c.args.self.now s []) (sym same)
    (subst (λ (q : Pass). IsResting c.args.self.now q × Goes g.D.Disk c.args.self.now c.args.self.now []) (sym p.1)
    (c.requires, Goes.stays)))

pub returns-in_err-snapshot-clause-cause : goal.returns-in_err-snapshot-clause-cause
returns-in_err-snapshot-clause-cause g c =
    let b : DbValue g.row.D.Denot = record { frames = c.pin.new.self; pending = c.self.inside.pending } in
    let p = c.in_err-snapshot.ensures.refused in
    let d = c.in_err-snapshot.ensures.error in
    let q = err_from_is_err_and c.from_residual.result c.from_residual.ensures.1 in
    let down : IsDown c.args.self.now d.0 =
    subst (λ (s : DbValue g.row.D.Denot). IsDown s d.0) c.self.view_is
    ((c.pin.ensures.is_down d.0).0 (c.in_err-snapshot.was ∙ ap Err d.1)) in
    let same : b ≡ c.args.self.now =
    ap (λ (f : FramesValue g.row.D.Denot). let s : DbValue g.row.D.Denot = record {
      frames = f;
      pending = c.self.inside.pending;
    } in s) p.0
    ∙ c.self.view_is in
    subst (λ (r : Result Transaction DbError).
    IfErr r (λ w. CannotBegin g.D.Disk c.args.self.now b c.args.deletes w))
    (sym (q.1 ∙ ap Err (q.2 ∙ ap frame_refusal d.1))) (down, same)

pub returns-in-Ok-clause-running : goal.returns-in-Ok-clause-running
returns-in-Ok-clause-running g c =
    let e = c.in-Ok.ensures in
    let pin = c.start.ensures.pin ∙ (c.in_ok-snapshot.ensures.pinned).pin in
    record {
      is_pass = c.start.ensures.pass;
      taken = λ none. let z : ⊥ = cc in z;
      snapshot = subst (λ (o : Option Pinned). IfSome o (λ p. p.commits ≡ c.in_ok-snapshot.snapshot)) (sym pin) refl;
      held = c.start.ensures.held;
      xid = e.xid;
      some = e.begun.0;
      runs = λ t up R stands legal P shown. (e.changed t up R stands legal P shown).0;
    }

pub returns-in-Ok-clause-begun : goal.returns-in-Ok-clause-begun
returns-in-Ok-clause-begun g c =
    let a : DbValue g.row.D.Denot = record { frames = c.self.inside.frames; pending = c.self.inside.pending } in
    let m : DbValue g.row.D.Denot = record { frames = c.pin.new.self; pending = c.self.inside.pending } in
    let e = c.pin.ensures.keeps in
    let path : Goes g.D.Disk c.args.self.now m [] =
    subst (λ (s : DbValue g.row.D.Denot). Goes g.D.Disk s m []) c.self.view_is
    (one_nothing g.D.Disk (pin_step g.D.Disk a m refl e.added e.journal e.begins c.in_ok-snapshot.ensures.pinned)) in
    let b = c.in-Ok.ensures.begun.1 in
    (b.0, b.1, goes_on g.D.Disk path b.2)

pub returns-in-Ok-clause-may : goal.returns-in-Ok-clause-may
returns-in-Ok-clause-may g c =
    let m : DbValue g.row.D.Denot = record { frames = c.pin.new.self; pending = c.self.inside.pending } in
    let same : m.frames.journal ≡ c.args.self.now.frames.journal =
    c.pin.ensures.keeps.journal ∙ ap (λ (s : DbValue g.row.D.Denot). s.frames.journal) c.self.view_is in
    let n = c.in_ok-snapshot.snapshot in
    let taken : n ≡ flushed_of c.args.self.now =
    (c.in_ok-snapshot.ensures.pinned).commits ∙ ap (λ (j : JournalValue g.row.D.Denot). j.flushed) same in
    let up : IsUp c.args.self.now =
    subst IsUp c.self.view_is
    (up_at_pin (down_of c.self.inside.frames.journal.wal) c.pin.result n c.pin.ensures.is_down c.in_ok-snapshot.was) in
    let may = c.in-Ok.ensures.may in (
      up,
      λ many. may.0 (spent_kept g.D.Disk c.args.self.now m same n taken many),
      there_first g.D.Disk c.args.self.now m same n taken c.args.deletes may.1,
    )

pub returns-in-Err-clause-refused : goal.returns-in-Err-clause-refused
returns-in-Err-clause-refused g c =
    let a : DbValue g.row.D.Denot = record { frames = c.self.inside.frames; pending = c.self.inside.pending } in
    let m : DbValue g.row.D.Denot = record { frames = c.pin.new.self; pending = c.self.inside.pending } in
    let s : DbValue g.row.D.Denot = record { frames = c.self-2.inside.frames; pending = c.self-2.inside.pending } in
    let b : DbValue g.row.D.Denot = record { frames = c.unpin.new.self; pending = c.self-2.inside.pending } in
    let e = c.pin.ensures.keeps in
    let u = c.unpin.ensures in
    let path : Goes g.D.Disk c.args.self.now m [] =
    subst (λ (x : DbValue g.row.D.Denot). Goes g.D.Disk x m []) c.self.view_is
    (one_nothing g.D.Disk (pin_step g.D.Disk a m refl e.added e.journal e.begins c.in_ok-snapshot.ensures.pinned)) in
    let last : Goes g.D.Disk c.start.new.self b [] =
    subst (λ (x : DbValue g.row.D.Denot). Goes g.D.Disk x b []) c.self-2.view_is
    (one_nothing g.D.Disk
    (unpin_step g.D.Disk s b refl c.start.new.pass.pin u.keeps.added u.keeps.journal u.keeps.begins u.pins)) in (
      record {
        is_pass = u.pass;
        idle = (u.none, u.keeps.same.0 ∙ c.start.ensures.held, u.keeps.same.2 ∙ c.in-Err.ensures.same_xid);
      },
      goes_on g.D.Disk path (goes_on g.D.Disk c.in-Err.ensures.refused last),
    )

pub returns-in-Err-clause-cause : goal.returns-in-Err-clause-cause
returns-in-Err-clause-cause g c =
    let a : DbValue g.row.D.Denot = record { frames = c.self.inside.frames; pending = c.self.inside.pending } in
    let m : DbValue g.row.D.Denot = record { frames = c.pin.new.self; pending = c.self.inside.pending } in
    let b : DbValue g.row.D.Denot = record { frames = c.unpin.new.self; pending = c.self-2.inside.pending } in
    let e = c.pin.ensures.keeps in
    let path : Goes g.D.Disk c.args.self.now m [] =
    subst (λ (x : DbValue g.row.D.Denot). Goes g.D.Disk x m []) c.self.view_is
    (one_nothing g.D.Disk (pin_step g.D.Disk a m refl e.added e.journal e.begins c.in_ok-snapshot.ensures.pinned)) in
    let same : m.frames.journal ≡ c.args.self.now.frames.journal =
    c.pin.ensures.keeps.journal ∙ ap (λ (s : DbValue g.row.D.Denot). s.frames.journal) c.self.view_is in
    let n = c.in_ok-snapshot.snapshot in
    let taken : n ≡ flushed_of c.args.self.now =
    (c.in_ok-snapshot.ensures.pinned).commits ∙ ap (λ (j : JournalValue g.row.D.Denot). j.flushed) same in
    let up : IsUp c.args.self.now =
    subst IsUp c.self.view_is
    (up_at_pin (down_of c.self.inside.frames.journal.wal) c.pin.result n c.pin.ensures.is_down c.in_ok-snapshot.was) in
    begin_why g.D.Disk c.args.self.now m same n taken b c.args.deletes c.in-Err.error up path c.in-Err.ensures.cause
