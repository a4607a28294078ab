-- The log is flushed, and a snapshot given up.
use Rattle.std.proofs.Common.{refl, ◌≡◌, [], sym, ap, subst, ◌∙◌, arith}
use Rattle.std.specs.Prelude.{Result, Ok, Err, IfErr}
use Rattle.std.proofs.lemmas.Result.{err_from_is_err_and}
use Rattle.wal.specs.Waiting.{down_of}
use Rattle.buffer_frames.specs.Passes.{IsPassOf}
use Rattle.buffer_frames.specs.declared.log_error.LogError.{LogError}
use Rattle.buffer_frames.specs.declared.log_error.LogError.TheVariants as logs
use Rattle.buffer_frames.proofs.Refused.{up_fault}
use Rattle.engine.specs.Db.{DbValue, IsUp}
use Rattle.engine.specs.Going.{Goes, MetNoFault, FaultIsTold}
use Rattle.engine.specs.Inner.Refusals.{log_refusal}
use Rattle.engine.specs.declared.error.DbError.{DbError}
use Rattle.engine.specs.declared.error.DbError.TheVariants.{DiskFault}
use Rattle.engine.proofs.Ending.{flushed_all, on_none}
use Rattle.engine.proofs.Paths.{one_nothing, write_step, unpin_step, write_no_fault, write_told, none_still, told_still}
use Rattle.engine.proofs.db.Db.settle.Goals as goal

pub flush_log-flushed-requires : goal.flush_log-flushed-requires
flush_log-flushed-requires g c = record {
  pass = subst (λ (s : DbValue g.row.D.Denot). IsPassOf s.frames c.args.pass.now) (sym c.self.view_is)
      c.requires.pass;
}

pub unpin-requires : goal.unpin-requires
unpin-requires g c = record { pass = c.flush_log-flushed.ensures.pass }

pub returns-in_err-flushed-clause-session : goal.returns-in_err-flushed-clause-session
returns-in_err-flushed-clause-session g c =
    let e = c.flush_log-flushed.ensures in
    let u = c.unpin.ensures in
    record {
      is_pass = u.pass;
      idle = (
        u.none,
        u.keeps.same.0 ∙ (e.keeps).held ∙ c.requires.idle.0,
        u.keeps.same.2 ∙ e.keeps.xid ∙ c.requires.idle.1,
      );
    }

pub returns-in_err-flushed-clause-flushed : goal.returns-in_err-flushed-clause-flushed
returns-in_err-flushed-clause-flushed g c =
    let p = err_from_is_err_and c.from_residual.result c.from_residual.ensures.1 in
    on_none _ c.from_residual.result p.0 p.1

pub returns-in_err-flushed-clause-goes : goal.returns-in_err-flushed-clause-goes
returns-in_err-flushed-clause-goes g c =
    let a : DbValue g.row.D.Denot = record { frames = c.self.inside.frames; pending = c.self.inside.pending } in
    let f : DbValue g.row.D.Denot = record { frames = c.flush_log-flushed.new.self; pending = c.self.inside.pending } in
    let b : DbValue g.row.D.Denot = record { frames = c.unpin.new.self; pending = c.self.inside.pending } in
    let e = c.flush_log-flushed.ensures in
    let u = c.unpin.ensures in
    subst (λ (s : DbValue g.row.D.Denot). Goes g.D.Disk s b []) c.self.view_is
    (Goes.nothing (one_nothing g.D.Disk
    (write_step g.D.Disk a f refl c.flush_log-flushed.result e.added e.state e.runs_on e.begins e.cause e.pins))
    (unpin_step g.D.Disk f b refl c.flush_log-flushed.new.pass.pin u.keeps.added u.keeps.journal u.keeps.begins u.pins))

pub returns-in_err-flushed-clause-keeps : goal.returns-in_err-flushed-clause-keeps
returns-in_err-flushed-clause-keeps g c =
    let e = c.flush_log-flushed.ensures in
    let u = c.unpin.ensures in
    record { room = u.keeps.same.1 ∙ (e.keeps).room; shown = omega (arith, (e.rises).shown, (u.keeps.rises).shown) }

pub returns-in_err-flushed-clause-fault : goal.returns-in_err-flushed-clause-fault
returns-in_err-flushed-clause-fault g c =
    let a : DbValue g.row.D.Denot = record { frames = c.self.inside.frames; pending = c.self.inside.pending } in
    let f : DbValue g.row.D.Denot = record { frames = c.flush_log-flushed.new.self; pending = c.self.inside.pending } in
    let b : DbValue g.row.D.Denot = record { frames = c.unpin.new.self; pending = c.self.inside.pending } in
    let e = c.flush_log-flushed.ensures in
    let w : LogError = (c.in_err-flushed.field-0).0 in
    let p = err_from_is_err_and c.from_residual.result c.from_residual.ensures.1 in
    let answer : Result (Unit {0}) DbError = Err (log_refusal w) in
    subst (λ (s : DbValue g.row.D.Denot). FaultIsTold g.D.Disk s b c.from_residual.result) c.self.view_is
    (subst (λ (r : Result (Unit {0}) DbError). FaultIsTold g.D.Disk a b r) (sym (p.1 ∙ ap Err p.2))
    (told_still g.D.Disk a f b answer
    (write_told g.D.Disk (Unit {0}) a f c.flush_log-flushed.result w c.in_err-flushed.was e.is_down e.cause
    e.goes_down) c.unpin.ensures.keeps.journal))

pub returns-in_err-flushed-clause-cause : goal.returns-in_err-flushed-clause-cause
returns-in_err-flushed-clause-cause g c =
    let w : LogError = (c.in_err-flushed.field-0).0 in
    let p = err_from_is_err_and c.from_residual.result c.from_residual.ensures.1 in
    let e = c.flush_log-flushed.ensures in
    let up : IsUp (let a : DbValue g.row.D.Denot =
    record { frames = c.self.inside.frames; pending = c.self.inside.pending } in a) =
    subst IsUp (sym c.self.view_is) c.requires.up in
    let is : w ≡ logs.DiskFault =
    subst (λ (r : Result (Unit {0}) LogError). IfErr r (λ v. v ≡ logs.DiskFault)) c.in_err-flushed.was
    (up_fault c.flush_log-flushed.result (down_of c.self.inside.frames.journal.wal) up e.error e.is_down) in
    subst (λ (r : Result (Unit {0}) DbError). IfErr r (λ v. v ≡ DiskFault)) (sym p.1) (p.2 ∙ ap log_refusal is)

pub returns-clause-session : goal.returns-clause-session
returns-clause-session g c =
    let e = c.flush_log-flushed.ensures in
    let u = c.unpin.ensures in
    record {
      is_pass = u.pass;
      idle = (
        u.none,
        u.keeps.same.0 ∙ (e.keeps).held ∙ c.requires.idle.0,
        u.keeps.same.2 ∙ e.keeps.xid ∙ c.requires.idle.1,
      );
    }

pub returns-clause-flushed : goal.returns-clause-flushed
returns-clause-flushed g c =
    let a : DbValue g.row.D.Denot = record { frames = c.self.inside.frames; pending = c.self.inside.pending } in
    let f : DbValue g.row.D.Denot = record { frames = c.flush_log-flushed.new.self; pending = c.self.inside.pending } in
    let b : DbValue g.row.D.Denot = record { frames = c.unpin.new.self; pending = c.self.inside.pending } in
    let e = c.flush_log-flushed.ensures in
    let u = c.unpin.ensures in
    let r = c.flush_log-flushed.result in
    let done = c.in_ok-flushed.ensures.done in
    flushed_all g.D.Disk a f b (write_step g.D.Disk a f refl r e.added e.state e.runs_on e.begins e.cause e.pins)
    u.keeps.journal
    c.flush_log-flushed.new.pass c.unpin.new.pass (subst IsUp (sym c.self.view_is) c.requires.up)
    (write_no_fault g.D.Disk a f r (λ is.
    let was : r ≡ Ok c.in_ok-flushed.field-0 = c.in_ok-flushed.was in
    let at : r ≡ Err logs.DiskFault = is in
    let z : ⊥ = cc in z) e.cause e.goes_down) done.0 done.1 e.shown (u.keeps.rises).shown (u.pass).shown

pub returns-clause-goes : goal.returns-clause-goes
returns-clause-goes g c =
    let a : DbValue g.row.D.Denot = record { frames = c.self.inside.frames; pending = c.self.inside.pending } in
    let f : DbValue g.row.D.Denot = record { frames = c.flush_log-flushed.new.self; pending = c.self.inside.pending } in
    let b : DbValue g.row.D.Denot = record { frames = c.unpin.new.self; pending = c.self.inside.pending } in
    let e = c.flush_log-flushed.ensures in
    let u = c.unpin.ensures in
    subst (λ (s : DbValue g.row.D.Denot). Goes g.D.Disk s b []) c.self.view_is
    (Goes.nothing (one_nothing g.D.Disk
    (write_step g.D.Disk a f refl c.flush_log-flushed.result e.added e.state e.runs_on e.begins e.cause e.pins))
    (unpin_step g.D.Disk f b refl c.flush_log-flushed.new.pass.pin u.keeps.added u.keeps.journal u.keeps.begins u.pins))

pub returns-clause-keeps : goal.returns-clause-keeps
returns-clause-keeps g c =
    let e = c.flush_log-flushed.ensures in
    let u = c.unpin.ensures in
    record { room = u.keeps.same.1 ∙ (e.keeps).room; shown = omega (arith, (e.rises).shown, (u.keeps.rises).shown) }

pub returns-clause-fault : goal.returns-clause-fault
returns-clause-fault g c =
    let a : DbValue g.row.D.Denot = record { frames = c.self.inside.frames; pending = c.self.inside.pending } in
    let f : DbValue g.row.D.Denot = record { frames = c.flush_log-flushed.new.self; pending = c.self.inside.pending } in
    let b : DbValue g.row.D.Denot = record { frames = c.unpin.new.self; pending = c.self.inside.pending } in
    let e = c.flush_log-flushed.ensures in
    let r = c.flush_log-flushed.result in
    subst (λ (s : DbValue g.row.D.Denot). MetNoFault g.D.Disk s b) c.self.view_is
    (none_still g.D.Disk {b = f} (write_no_fault g.D.Disk a f r (λ is.
    let was : r ≡ Ok c.in_ok-flushed.field-0 = c.in_ok-flushed.was in
    let at : r ≡ Err logs.DiskFault = is in
    let z : ⊥ = cc in z) e.cause e.goes_down) c.unpin.ensures.keeps.journal)
