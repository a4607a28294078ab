-- A scan is stepped to its end, or a step is refused.
use Rattle.std.proofs.Common.{refl, sym, ap, subst, ◌∙◌}
use Rattle.std.specs.Prelude.{⊤, Result, Err, IfErr}
use Rattle.std.proofs.lemmas.Result.{err_from_is_err_and}
use Rattle.engine.specs.Answers.{MeetsNoBadPage}
use Rattle.engine.specs.Db.{DbValue}
use Rattle.engine.specs.Going.{FaultIsTold}
use Rattle.engine.specs.Coming.{ComesToBadPage}
use Rattle.engine.specs.Inner.Finds.{CannotFind}
use Rattle.engine.specs.declared.error.DbError.{DbError}
use Rattle.engine.proofs.IndexReads.{ScansOn, store_of, scans_first, scans_more, read_then, told_then}
use Rattle.engine.proofs.IndexReads.{cause_then, comes_then, meets_then}
use Rattle.engine.proofs.db.Db.read_index.Goals as goal

pub loop-init : goal.loop-init
loop-init g c =
    let q = c.args.scan.now.query.now in
    subst (λ (s : DbValue g.row.D.Denot). ScansOn g.D.Disk q c.args.self.now c.args.pass.now s c.args.pass.now
    c.args.scan.now) (sym c.self.view_is)
    (scans_first g.D.Disk q c.args.self.now c.args.pass.now c.args.scan.now c.requires.scanning c.requires.query
    c.requires.walk c.requires.reached)

pub returns-in_err-step-clause-reads : goal.returns-in_err-step-clause-reads
returns-in_err-step-clause-reads g c =
    read_then g.D.Disk c.args.scan.now.query.now c.args.self.now c.args.pass.now
    (store_of c.loop.self-inside.pending c.loop.self-inside.frames)
    (store_of c.loop.self-inside.pending c.step.new.frames) refl c.loop.pass c.step.new.pass c.loop.scan
    c.loop.invariant c.step.ensures.reads

pub returns-in_err-step-clause-fault : goal.returns-in_err-step-clause-fault
returns-in_err-step-clause-fault g c =
    let p = err_from_is_err_and c.from_residual.result c.from_residual.ensures.1 in
    subst (λ (r : Result ⊤ DbError). FaultIsTold g.D.Disk c.args.self.now
    (store_of c.loop.self-inside.pending c.step.new.frames) r)
    (sym (p.1 ∙ ap Err p.2))
    (told_then g.D.Disk c.args.scan.now.query.now c.args.self.now c.args.pass.now ⊤
    (store_of c.loop.self-inside.pending c.loop.self-inside.frames)
    (store_of c.loop.self-inside.pending c.step.new.frames) c.loop.pass c.loop.scan c.step.result
    c.in_err-step.field-0.0 c.loop.invariant c.in_err-step.was c.step.ensures.fault)

pub returns-in_err-step-clause-cause : goal.returns-in_err-step-clause-cause
returns-in_err-step-clause-cause g c =
    let p = err_from_is_err_and c.from_residual.result c.from_residual.ensures.1 in
    subst (λ (r : Result ⊤ DbError). IfErr r (λ e. CannotFind g.D.Disk c.args.self.now e))
    (sym (p.1 ∙ ap Err p.2))
    (cause_then g.D.Disk c.args.scan.now.query.now c.args.self.now c.args.pass.now
    (store_of c.loop.self-inside.pending c.loop.self-inside.frames) c.loop.pass c.loop.scan c.loop.scan.core.stage
    c.in_err-step.field-0.0
    c.requires.up c.loop.invariant c.in_err-step.ensures.cause)

pub returns-in_err-step-clause-lawful : goal.returns-in_err-step-clause-lawful
returns-in_err-step-clause-lawful g c =
    let p = err_from_is_err_and c.from_residual.result c.from_residual.ensures.1 in
    subst (λ (r : Result ⊤ DbError). IfErr r (λ e. MeetsNoBadPage g.D.Disk c.args.self.now e))
    (sym (p.1 ∙ ap Err p.2))
    (meets_then g.D.Disk c.args.scan.now.query.now c.args.self.now c.args.pass.now
    (store_of c.loop.self-inside.pending c.loop.self-inside.frames) c.loop.pass c.loop.scan c.in_err-step.field-0.0
    c.loop.invariant
    c.in_err-step.ensures.lawful)

pub returns-in_err-step-clause-way : goal.returns-in_err-step-clause-way
returns-in_err-step-clause-way g c =
    let p = err_from_is_err_and c.from_residual.result c.from_residual.ensures.1 in
    subst (λ (r : Result ⊤ DbError). IfErr r (λ e. ComesToBadPage g.D.Disk c.args.self.now c.args.scan.now.query.now e))
    (sym (p.1 ∙ ap Err p.2))
    (comes_then g.D.Disk c.args.scan.now.query.now c.args.self.now c.args.pass.now
    (store_of c.loop.self-inside.pending c.loop.self-inside.frames) c.loop.pass c.loop.scan c.in_err-step.field-0.0
    c.loop.invariant
    c.in_err-step.ensures.cause)

pub loop-preserved : goal.loop-preserved
loop-preserved g c =
    let e = c.in_ok-step.ensures in
    scans_more g.D.Disk c.args.scan.now.query.now c.args.self.now c.args.pass.now
    (store_of c.loop.self-inside.pending c.loop.self-inside.frames)
    (store_of c.loop.self-inside.pending c.step.new.frames) refl c.loop.pass c.step.new.pass c.loop.scan c.step.new.self
    c.step.result
    c.in_ok-step.field-0 c.loop.invariant c.in_ok-step.was e.same e.scanning e.query e.walk e.reads c.step.ensures.fault
    e.reached

pub returns-clause-reads : goal.returns-clause-reads
returns-clause-reads g c =
    read_then g.D.Disk c.args.scan.now.query.now c.args.self.now c.args.pass.now
    (store_of c.loop.self-inside.pending c.loop.self-inside.frames)
    (store_of c.loop.self-inside.pending c.step.new.frames) refl c.loop.pass c.step.new.pass c.loop.scan
    c.loop.invariant c.step.ensures.reads
