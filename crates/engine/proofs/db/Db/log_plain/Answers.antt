-- A record that leaves no page is logged, or refused.
use Rattle.std.proofs.Common.{refl, ◌≡◌, ℕ, List, [], false, sym, ap, subst, ◌∙◌}
use Rattle.std.specs.Prelude.{Result, Ok, Err, IfErr}
use Rattle.std.proofs.lemmas.Result.{err_from_is_err_and}
use Rattle.core_state.specs.Allowed.{Sheet, Step, MayLog, Owes}
use Rattle.core_state.specs.Log.{Log}
use Rattle.buffer_frames.specs.Frames.{Stands, Behind}
use Rattle.buffer_frames.specs.Opens.{IsEarlyKind}
use Rattle.buffer_frames.specs.Journals.{is_work, next_record}
use Rattle.buffer_frames.specs.Passes.{IsPassOf, IsHolding, Seen, IsLogged, view_of}
use Rattle.buffer_frames.specs.declared.log_error.LogError.TheVariants as logs
use Rattle.buffer_frames.proofs.AtHand.{none_held}
use Rattle.buffer_frames.proofs.Exits.{on_refusal}
use Rattle.engine.specs.Causes.{AreXidsSpent}
use Rattle.engine.specs.Db.{DbValue, IsUp}
use Rattle.engine.specs.Going.{LogsNothing, LogsOne, FaultIsTold}
use Rattle.engine.specs.Inner.Parts.{Runs}
use Rattle.engine.specs.Inner.Plain.{plain_step, plain_record, MayBePlain, CannotLog}
use Rattle.engine.specs.Inner.Refusals.{log_refusal}
use Rattle.engine.specs.declared.error.DbError.{DbError}
use Rattle.engine.proofs.Carrying.{carries}
use Rattle.engine.proofs.Paths.{write_step, write_told, logged_step}
use Rattle.engine.proofs.Plain.{plain_early, plain_rests, plain_may, plain_owes, refused_why, spent_when}
use Rattle.engine.proofs.db.Db.log_plain.Goals as goal

pub log_step-requires-clause-holding : goal.log_step-requires-clause-holding
log_step-requires-clause-holding g c =
    let f = c.self.inside.frames in
    let pass = c.args.pass.now in
    let of : IsPassOf f pass =
    subst (λ (s : DbValue g.row.D.Denot). IsPassOf s.frames pass) (sym c.self.view_is) c.requires.pass in
    subst (λ (hs : List Sheet). IsHolding g.D.Disk f pass hs) (sym c.new.ensures.items)
    (none_held g.D.Disk f pass of c.requires.held)

pub log_step-requires-clause-may : goal.log_step-requires-clause-may
log_step-requires-clause-may g c =
    let a : DbValue g.row.D.Denot = record { frames = c.self.inside.frames; pending = c.self.inside.pending } in
    let f = c.self.inside.frames in
    let pass = c.args.pass.now in
    let may : MayBePlain g.D.Disk a pass c.args.kind c.args.xid =
    subst (λ (s : DbValue g.row.D.Denot). MayBePlain g.D.Disk s pass c.args.kind c.args.xid) (sym c.self.view_is)
    c.requires.may in
    subst (λ (t : Step). Behind g.D.Disk f (λ R. MayLog (view_of f pass R c.new.result.items) t))
    (sym c.new-step.ensures)
    (subst (λ (hs : List Sheet).
    Behind g.D.Disk f (λ R. MayLog (view_of f pass R hs) (plain_step c.args.kind c.args.xid)))
    (sym c.new.ensures.items) (plain_may g.D.Disk a pass c.args.xid c.args.kind may))

pub log_step-requires-clause-owes : goal.log_step-requires-clause-owes
log_step-requires-clause-owes g c =
    let a : DbValue g.row.D.Denot = record { frames = c.self.inside.frames; pending = c.self.inside.pending } in
    let f = c.self.inside.frames in
    let pass = c.args.pass.now in
    let of : IsPassOf f pass =
    subst (λ (s : DbValue g.row.D.Denot). IsPassOf s.frames pass) (sym c.self.view_is) c.requires.pass in
    let may : MayBePlain g.D.Disk a pass c.args.kind c.args.xid =
    subst (λ (s : DbValue g.row.D.Denot). MayBePlain g.D.Disk s pass c.args.kind c.args.xid) (sym c.self.view_is)
    c.requires.may in
    subst (λ (t : Step). (R : Log) → Stands g.D.Disk f R → Owes (view_of f pass R c.new.result.items) t)
    (sym c.new-step.ensures)
    (subst (λ (hs : List Sheet).
    (R : Log) → Stands g.D.Disk f R → Owes (view_of f pass R hs) (plain_step c.args.kind c.args.xid))
    (sym c.new.ensures.items) (plain_owes g.D.Disk a pass c.args.xid c.args.kind may of))

pub returns-in_err-drawn-clause-fault : goal.returns-in_err-drawn-clause-fault
returns-in_err-drawn-clause-fault g c =
    let a : DbValue g.row.D.Denot = record { frames = c.self.inside.frames; pending = c.self.inside.pending } in
    let b : DbValue g.row.D.Denot = record { frames = c.log_step.new.self; pending = c.self.inside.pending } in
    let p = err_from_is_err_and c.from_residual.result c.from_residual.ensures.1 in
    let e = c.log_step.ensures in
    subst (λ (s : DbValue g.row.D.Denot). FaultIsTold g.D.Disk s b c.from_residual.result) c.self.view_is
    (subst (λ (r : Result ℕ DbError). FaultIsTold g.D.Disk a b r) (sym (p.1 ∙ ap Err p.2))
    (write_told g.D.Disk ℕ a b c.log_step.result (c.in_err-drawn.field-0).0 c.in_err-drawn.was e.is_down e.cause
    e.goes_down))

pub returns-in_err-drawn-clause-refused : goal.returns-in_err-drawn-clause-refused
returns-in_err-drawn-clause-refused g c =
    let a : DbValue g.row.D.Denot = record { frames = c.self.inside.frames; pending = c.self.inside.pending } in
    let b : DbValue g.row.D.Denot = record { frames = c.log_step.new.self; pending = c.self.inside.pending } in
    let e = c.in_err-drawn.ensures in
    on_refusal _ c.from_residual.result (subst (λ (s : DbValue g.row.D.Denot). LogsNothing g.D.Disk s b)
    c.self.view_is
    (write_step g.D.Disk a b refl c.log_step.result e.refused e.refused_state c.log_step.ensures.runs_on
    e.refused_begins
    c.log_step.ensures.cause c.log_step.ensures.pins))

pub returns-in_err-drawn-clause-runs : goal.returns-in_err-drawn-clause-runs
returns-in_err-drawn-clause-runs g c =
    let a : DbValue g.row.D.Denot = record { frames = c.self.inside.frames; pending = c.self.inside.pending } in
    let b : DbValue g.row.D.Denot = record { frames = c.log_step.new.self; pending = c.self.inside.pending } in
    let e = c.in_err-drawn.ensures in
    let pass = c.args.pass.now in
    on_refusal _ c.from_residual.result (λ x is had.
    (carries g.D.Disk a b pass c.log_step.new.pass e.refused e.refused_sees_on c.log_step.ensures.rises
    c.log_step.ensures.pass).runs x is
    (subst (λ (s : DbValue g.row.D.Denot). Runs g.D.Disk s pass x) (sym c.self.view_is) had))

pub returns-in_err-drawn-clause-cause : goal.returns-in_err-drawn-clause-cause
returns-in_err-drawn-clause-cause g c =
    let a : DbValue g.row.D.Denot = record { frames = c.self.inside.frames; pending = c.self.inside.pending } in
    let p = err_from_is_err_and c.from_residual.result c.from_residual.ensures.1 in
    let e = c.log_step.ensures in
    subst (λ (r : Result ℕ DbError). IfErr r (λ w. CannotLog c.args.self.now c.args.kind c.args.xid w))
    (sym (p.1 ∙ ap Err p.2))
    (subst (λ (s : DbValue g.row.D.Denot).
    CannotLog s c.args.kind c.args.xid (log_refusal (c.in_err-drawn.field-0).0)) c.self.view_is
    (refused_why a c.args.kind c.args.xid c.new-step.result c.new-step.ensures c.log_step.result e.spent
    (c.in_err-drawn.field-0).0 c.in_err-drawn.was e.full e.is_down))

pub returns-in_err-drawn-clause-spent : goal.returns-in_err-drawn-clause-spent
returns-in_err-drawn-clause-spent g c =
    let a : DbValue g.row.D.Denot = record { frames = c.self.inside.frames; pending = c.self.inside.pending } in
    let p = err_from_is_err_and c.from_residual.result c.from_residual.ensures.1 in
    λ up begins many.
    let is : c.log_step.result ≡ Err logs.XidsSpent =
    spent_when a c.args.kind c.args.xid c.new-step.result c.new-step.ensures c.log_step.result
    c.log_step.ensures.spent (subst IsUp (sym c.self.view_is) up) begins
    (subst AreXidsSpent (sym c.self.view_is) many) in
    let same : (c.in_err-drawn.field-0).0 ≡ logs.XidsSpent =
    let w : c.log_step.result ≡ Err (c.in_err-drawn.field-0).0 = c.in_err-drawn.was in cc in
    p.1 ∙ ap Err (p.2 ∙ ap log_refusal same)

pub returns-clause-logged : goal.returns-clause-logged
returns-clause-logged g c =
    let a : DbValue g.row.D.Denot = record { frames = c.self.inside.frames; pending = c.self.inside.pending } in
    let b : DbValue g.row.D.Denot = record { frames = c.log_step.new.self; pending = c.self.inside.pending } in
    let e = c.in_ok-drawn.ensures in
    let all = c.log_step.ensures in
    subst (λ (s : DbValue g.row.D.Denot). LogsOne g.D.Disk s b (plain_record s c.args.kind c.args.xid))
    c.self.view_is
    (subst (λ (t : Step). LogsOne g.D.Disk a b (next_record a.frames.journal t)) c.new-step.ensures
    (logged_step g.D.Disk a b refl c.log_step.result c.in_ok-drawn.drawn c.new-step.result c.in_ok-drawn.was e.added
    e.logged e.legal e.state all.full all.is_down all.runs_on
    (e.begins (subst (λ (t : Step). IsEarlyKind t.kind) (sym c.new-step.ensures)
    (plain_early g.D.Disk c.args.self.now c.args.pass.now c.args.xid c.args.kind c.requires.may))) all.cause all.pins
    (all.rests (subst (λ (t : Step). is_work t.kind ≡ false) (sym c.new-step.ensures)
    (plain_rests g.D.Disk c.args.self.now c.args.pass.now c.args.xid c.args.kind c.requires.may)))))

pub returns-clause-seen : goal.returns-clause-seen
returns-clause-seen g c =
    let f = c.log_step.new.self in
    let pass = c.args.pass.now in
    let pass' = c.log_step.new.pass in
    subst (λ (t : Step). Seen g.D.Disk f pass' (λ S P. IsLogged (view_of f pass S []) t S P)) c.new-step.ensures
    (subst (λ (hs : List Sheet). Seen g.D.Disk f pass' (λ S P.
    IsLogged (view_of f pass S hs) c.new-step.result S P)) c.new.ensures.items c.in_ok-drawn.ensures.seen)

pub returns-clause-spent : goal.returns-clause-spent
returns-clause-spent g c =
    let a : DbValue g.row.D.Denot = record { frames = c.self.inside.frames; pending = c.self.inside.pending } in
    λ up begins many.
    let is : c.log_step.result ≡ Err logs.XidsSpent =
    spent_when a c.args.kind c.args.xid c.new-step.result c.new-step.ensures c.log_step.result
    c.log_step.ensures.spent (subst IsUp (sym c.self.view_is) up) begins
    (subst AreXidsSpent (sym c.self.view_is) many) in
    let was : c.log_step.result ≡ Ok c.in_ok-drawn.drawn = c.in_ok-drawn.was in
    absurd (let z : ⊥ = cc in z)
