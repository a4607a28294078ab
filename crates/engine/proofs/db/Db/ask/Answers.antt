-- The state of the log is asked.
use Rattle.std.proofs.Common.{refl, ap, subst, ◌∙◌}
use Rattle.std.specs.Prelude.{Err}
use Rattle.engine.specs.Db.{DbValue}
use Rattle.engine.specs.Going.{MetNoFault}
use Rattle.engine.specs.Inner.Finds.{ReadsOn}
use Rattle.engine.proofs.Paths.{calm_fault}
use Rattle.engine.proofs.ReadSteps.{looked_on, not_down}
use Rattle.engine.proofs.db.Db.ask.Goals as goal

pub returns-clause-reads : goal.returns-clause-reads
returns-clause-reads g c =
    let a : DbValue g.row.D.Denot = record { frames = c.self.inside.frames; pending = c.self.inside.pending } in
    let b : DbValue g.row.D.Denot = record { frames = c.look.new.self; pending = c.self.inside.pending } in
    let e = c.look.ensures in
    subst (λ (s : DbValue g.row.D.Denot). ReadsOn g.D.Disk s c.args.pass.now b c.look.new.pass) c.self.view_is
    (looked_on g.D.Disk a b refl c.args.pass.now c.look.new.pass c.requires.none e.pass e.added e.keeps e.rises
    e.keeps.xid
    e.runs_on
    e.state e.others e.calm e.begins e.pins)

pub returns-clause-met : goal.returns-clause-met
returns-clause-met g c =
    let a : DbValue g.row.D.Denot = record { frames = c.self.inside.frames; pending = c.self.inside.pending } in
    let b : DbValue g.row.D.Denot = record { frames = c.look.new.self; pending = c.self.inside.pending } in
    subst (λ (s : DbValue g.row.D.Denot). MetNoFault g.D.Disk s b) c.self.view_is
    (calm_fault g.D.Disk a b c.look.ensures.calm)

pub returns-in_err-look : goal.returns-in_err-look
returns-in_err-look g c =
    let a : DbValue g.row.D.Denot = record { frames = c.self.inside.frames; pending = c.self.inside.pending } in
    let d = c.in_err-look.ensures.error in
    absurd (not_down g.D.Disk a c.args.self.now d.0 c.self.view_is c.requires.up
    ((c.look.ensures.is_down d.0).0 (c.in_err-look.was ∙ ap Err d.1)))
