-- A look logs nothing.
use Rattle.std.proofs.Common.{refl, ◌≡◌, ℕ, [], Bool, sym, ap, subst, ◌∙◌}
use Rattle.std.specs.Prelude.{Result, Err, IfErr}
use Rattle.std.proofs.lemmas.Result.{err_from_is_err_and}
use Rattle.engine.specs.Causes.{IsDown}
use Rattle.engine.specs.Db.{DbValue}
use Rattle.engine.specs.Going.{Goes}
use Rattle.engine.specs.Inner.Refusals.{frame_refusal}
use Rattle.engine.specs.declared.error.DbError.{DbError}
use Rattle.engine.specs.declared.error.DbError.TheVariants.{Down}
use Rattle.engine.proofs.Paths.{one_nothing, calm_step}
use Rattle.engine.proofs.db.Db.is_there.Goals as goal

pub returns-in_err-look-clause-goes : goal.returns-in_err-look-clause-goes
returns-in_err-look-clause-goes g c =
    let a : DbValue g.row.D.Denot = record { frames = c.self.inside.frames; pending = c.self.inside.pending } in
    let b : DbValue g.row.D.Denot = record { frames = c.look.new.self; pending = c.self.inside.pending } in
    let e = c.look.ensures in
    subst (λ (s : DbValue g.row.D.Denot). Goes g.D.Disk s b []) c.self.view_is
    (one_nothing g.D.Disk (calm_step g.D.Disk a b refl e.added e.state e.runs_on e.begins e.calm e.pins))

pub returns-clause-goes : goal.returns-clause-goes
returns-clause-goes g c =
    let a : DbValue g.row.D.Denot = record { frames = c.self.inside.frames; pending = c.self.inside.pending } in
    let b : DbValue g.row.D.Denot = record { frames = c.look.new.self; pending = c.self.inside.pending } in
    let e = c.look.ensures in
    subst (λ (s : DbValue g.row.D.Denot). Goes g.D.Disk s b []) c.self.view_is
    (one_nothing g.D.Disk (calm_step g.D.Disk a b refl e.added e.state e.runs_on e.begins e.calm e.pins))

pub returns-in_err-look-clause-error : goal.returns-in_err-look-clause-error
returns-in_err-look-clause-error g c =
    let p = err_from_is_err_and c.from_residual.result c.from_residual.ensures.1 in
    let d = c.in_err-look.ensures.error in
    let was = (c.look.ensures.is_down d.0).0 (c.in_err-look.was ∙ ap Err d.1) in
    subst (λ (r : Result Bool DbError). IfErr r (λ e. (f : ℕ) × (e ≡ Down f) × IsDown c.args.self.now f)) (sym p.1)
    (d.0, p.2 ∙ ap frame_refusal d.1, subst (λ (s : DbValue g.row.D.Denot). IsDown s d.0) c.self.view_is was)
