-- A step on pages that are held is logged, or refused.
use Rattle.std.proofs.Common.{refl, [], sym, ap, subst, ◌∙◌}
use Rattle.std.specs.Prelude.{Result, Err, IfErr, OnErr}
use Rattle.std.proofs.lemmas.Result.{err_from_is_err_and}
use Rattle.core_state.specs.Log.{Log}
use Rattle.core_state.specs.Allowed.{MayLog}
use Rattle.buffer_frames.specs.Frames.{Behind}
use Rattle.buffer_frames.specs.Journals.{next_record}
use Rattle.buffer_frames.specs.Passes.{view_of}
use Rattle.buffer_frames.specs.declared.step.Drawn.{Drawn}
use Rattle.engine.specs.Db.{DbValue}
use Rattle.engine.specs.Going.{Goes, FaultIsTold}
use Rattle.engine.specs.Inner.Changing.{LogsStep, CannotLog}
use Rattle.engine.specs.Inner.Parts.{CarriesOwn}
use Rattle.engine.specs.declared.error.DbError.{DbError}
use Rattle.engine.proofs.Carrying.{carries}
use Rattle.engine.proofs.Logging.{early_of, rests_of, log_cause}
use Rattle.engine.proofs.Paths.{one_nothing, write_step, logged_step, write_told}
use Rattle.engine.proofs.db.Db.log_pages.Goals as goal

pub log_step-requires-clause-may : goal.log_step-requires-clause-may
log_step-requires-clause-may g c =
    subst (λ (s : DbValue g.row.D.Denot). Behind g.D.Disk s.frames
    (λ (R : Log). MayLog (view_of s.frames c.args.pass.now R c.args.pages.items) c.args.step))
    (sym c.self.view_is) c.requires.may

pub returns-in_err-log_step-clause-fault : goal.returns-in_err-log_step-clause-fault
returns-in_err-log_step-clause-fault g c =
    let a : DbValue g.row.D.Denot = record { frames = c.self.inside.frames; pending = c.self.inside.pending } in
    let b : DbValue g.row.D.Denot = record { frames = c.log_step.new.self; pending = c.self.inside.pending } in
    let e = c.log_step.ensures in
    let p = err_from_is_err_and c.from_residual.result c.from_residual.ensures.1 in
    subst (λ (s : DbValue g.row.D.Denot). FaultIsTold g.D.Disk s b c.from_residual.result) c.self.view_is
    (subst (λ (r : Result Drawn DbError). FaultIsTold g.D.Disk a b r) (sym (p.1 ∙ ap Err p.2))
    (write_told g.D.Disk Drawn a b c.log_step.result _ c.in_err-log_step.was e.is_down e.cause e.goes_down))

pub returns-in_err-log_step-clause-refused : goal.returns-in_err-log_step-clause-refused
returns-in_err-log_step-clause-refused g c =
    let a : DbValue g.row.D.Denot = record { frames = c.self.inside.frames; pending = c.self.inside.pending } in
    let b : DbValue g.row.D.Denot = record { frames = c.log_step.new.self; pending = c.self.inside.pending } in
    let e = c.log_step.ensures in
    let f = c.in_err-log_step.ensures in
    let p = err_from_is_err_and c.from_residual.result c.from_residual.ensures.1 in
    subst (λ (r : Result Drawn DbError). OnErr r (Goes g.D.Disk c.args.self.now b [])) (sym p.1)
    (subst (λ (s : DbValue g.row.D.Denot). Goes g.D.Disk s b []) c.self.view_is
    (one_nothing g.D.Disk
    (write_step g.D.Disk a b refl c.log_step.result f.refused f.refused_state e.runs_on f.refused_begins e.cause
    e.pins)))

pub returns-in_err-log_step-clause-carries : goal.returns-in_err-log_step-clause-carries
returns-in_err-log_step-clause-carries g c =
    let a : DbValue g.row.D.Denot = record { frames = c.self.inside.frames; pending = c.self.inside.pending } in
    let b : DbValue g.row.D.Denot = record { frames = c.log_step.new.self; pending = c.self.inside.pending } in
    let e = c.log_step.ensures in
    let f = c.in_err-log_step.ensures in
    let p = err_from_is_err_and c.from_residual.result c.from_residual.ensures.1 in
    subst (λ (r : Result Drawn DbError).
    OnErr r (CarriesOwn g.D.Disk c.args.self.now c.args.pass.now b c.log_step.new.pass)) (sym p.1)
    (subst (λ (s : DbValue g.row.D.Denot). CarriesOwn g.D.Disk s c.args.pass.now b c.log_step.new.pass) c.self.view_is
    (carries g.D.Disk a b c.args.pass.now c.log_step.new.pass f.refused f.refused_sees_on e.rises e.pass))

pub returns-in_err-log_step-clause-cause : goal.returns-in_err-log_step-clause-cause
returns-in_err-log_step-clause-cause g c =
    let a : DbValue g.row.D.Denot = record { frames = c.self.inside.frames; pending = c.self.inside.pending } in
    let e = c.log_step.ensures in
    let p = err_from_is_err_and c.from_residual.result c.from_residual.ensures.1 in
    let next = next_record a.frames.journal c.args.step in
    let why = log_cause a next c.args.step.kind c.log_step.result _ c.in_err-log_step.was c.requires.document e.full
    e.spent e.is_down in
    subst (λ (r : Result Drawn DbError). IfErr r (λ (d : DbError).
    CannotLog c.args.self.now (next_record c.args.self.now.frames.journal c.args.step) d)) (sym p.1)
    (subst (λ (s : DbValue g.row.D.Denot). CannotLog s (next_record s.frames.journal c.args.step) p.0) c.self.view_is
    (subst (CannotLog a next) (sym p.2) why))

pub returns-clause-logged : goal.returns-clause-logged
returns-clause-logged g c =
    let a : DbValue g.row.D.Denot = record { frames = c.self.inside.frames; pending = c.self.inside.pending } in
    let b : DbValue g.row.D.Denot = record { frames = c.log_step.new.self; pending = c.self.inside.pending } in
    let e = c.log_step.ensures in
    let f = c.in_ok-log_step.ensures in
    subst (λ (s : DbValue g.row.D.Denot).
    LogsStep g.D.Disk s c.args.pass.now c.args.pages.items c.args.step b c.log_step.new.pass)
    c.self.view_is
    (record {
      one =
          logged_step g.D.Disk a b refl c.log_step.result _ c.args.step c.in_ok-log_step.was f.added f.logged f.legal
          f.state
          e.full e.is_down e.runs_on
          (f.begins (early_of c.args.step.kind c.requires.document)) e.cause e.pins
          (e.rests (rests_of c.args.step.kind c.requires.document));
      seen = f.seen;
      rises = (e.rises).seen;
      all = f.all;
    })
