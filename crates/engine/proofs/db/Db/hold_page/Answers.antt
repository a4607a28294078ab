-- A page is held: the frames hold it, or say why not.
use Rattle.std.proofs.Common.{[], refl, sym, subst, arith}
use Rattle.std.specs.Prelude.{Result, IfErr}
use Rattle.std.proofs.lemmas.Result.{err_from_is_err_and}
use Rattle.core_state.specs.Allowed.{Sheet}
use Rattle.engine.specs.Causes.{IsNoPageAt, IsNone}
use Rattle.engine.specs.Db.{DbValue}
use Rattle.engine.specs.Going.{Goes, stays}
use Rattle.engine.specs.Inner.Parts.{CarriesOwn, CannotHold}
use Rattle.engine.specs.declared.error.DbError.{DbError}
use Rattle.engine.proofs.Carrying.{carries}
use Rattle.engine.proofs.Choosing.{hold_cause}
use Rattle.engine.proofs.Paths.{one_nothing, hold_step}
use Rattle.engine.proofs.db.Db.hold_page.Goals as goal

pub returns-then-page-ge-PAGE_LIMIT-clause-goes : goal.returns-then-page-ge-PAGE_LIMIT-clause-goes
returns-then-page-ge-PAGE_LIMIT-clause-goes g c = stays

pub returns-then-page-ge-PAGE_LIMIT-clause-cause : goal.returns-then-page-ge-PAGE_LIMIT-clause-cause
returns-then-page-ge-PAGE_LIMIT-clause-cause g c = (refl, IsNone.past (omega arith))

pub returns-in_err-hold-clause-carries : goal.returns-in_err-hold-clause-carries
returns-in_err-hold-clause-carries g c =
    let a : DbValue g.row.D.Denot = record { frames = c.self.inside.frames; pending = c.self.inside.pending } in
    let b : DbValue g.row.D.Denot = record { frames = c.hold.new.self; pending = c.self.inside.pending } in
    let e = c.hold.ensures in
    subst (λ (s : DbValue g.row.D.Denot). CarriesOwn g.D.Disk s c.args.pass.now b c.hold.new.pass) c.self.view_is
    (carries g.D.Disk a b c.args.pass.now c.hold.new.pass e.added e.sees_on e.rises e.pass)

pub returns-in_err-hold-clause-goes : goal.returns-in_err-hold-clause-goes
returns-in_err-hold-clause-goes g c =
    let a : DbValue g.row.D.Denot = record { frames = c.self.inside.frames; pending = c.self.inside.pending } in
    let b : DbValue g.row.D.Denot = record { frames = c.hold.new.self; pending = c.self.inside.pending } in
    let e = c.hold.ensures in
    subst (λ (s : DbValue g.row.D.Denot). Goes g.D.Disk s b []) c.self.view_is
    (one_nothing g.D.Disk (hold_step g.D.Disk a b refl c.hold.result e.added e.state e.runs_on e.begins e.cause e.pins))

pub returns-in_err-hold-clause-cause : goal.returns-in_err-hold-clause-cause
returns-in_err-hold-clause-cause g c =
    let a : DbValue g.row.D.Denot = record { frames = c.self.inside.frames; pending = c.self.inside.pending } in
    let e = c.hold.ensures in
    let p = err_from_is_err_and c.from_residual.result c.from_residual.ensures.1 in
    let why = hold_cause g.D.Disk a c.args.page c.hold.result _ c.in_err-hold.was e.is_down e.bad in
    subst (λ (r : Result Sheet DbError). IfErr r (CannotHold g.D.Disk c.args.self.now c.args.page IsNoPageAt)) (sym p.1)
    (subst (λ (s : DbValue g.row.D.Denot). CannotHold g.D.Disk s c.args.page IsNoPageAt p.0) c.self.view_is
    (subst (CannotHold g.D.Disk a c.args.page IsNoPageAt) (sym p.2) why))

pub returns-clause-carries : goal.returns-clause-carries
returns-clause-carries g c =
    let a : DbValue g.row.D.Denot = record { frames = c.self.inside.frames; pending = c.self.inside.pending } in
    let b : DbValue g.row.D.Denot = record { frames = c.hold.new.self; pending = c.self.inside.pending } in
    let e = c.hold.ensures in
    subst (λ (s : DbValue g.row.D.Denot). CarriesOwn g.D.Disk s c.args.pass.now b c.hold.new.pass) c.self.view_is
    (carries g.D.Disk a b c.args.pass.now c.hold.new.pass e.added e.sees_on e.rises e.pass)

pub returns-clause-goes : goal.returns-clause-goes
returns-clause-goes g c =
    let a : DbValue g.row.D.Denot = record { frames = c.self.inside.frames; pending = c.self.inside.pending } in
    let b : DbValue g.row.D.Denot = record { frames = c.hold.new.self; pending = c.self.inside.pending } in
    let e = c.hold.ensures in
    subst (λ (s : DbValue g.row.D.Denot). Goes g.D.Disk s b []) c.self.view_is
    (one_nothing g.D.Disk (hold_step g.D.Disk a b refl c.hold.result e.added e.state e.runs_on e.begins e.cause e.pins))
