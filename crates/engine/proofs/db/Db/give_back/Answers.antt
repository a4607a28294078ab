-- A page is given back.
use Rattle.std.proofs.Common.{refl, [], ◌∷◌, sym, subst}
use Rattle.buffer_frames.specs.Passes.{IsHolding}
use Rattle.engine.specs.Db.{DbValue}
use Rattle.engine.specs.Inner.Choosing.{GivesBack}
use Rattle.engine.proofs.ListEnds.{given_back}
use Rattle.engine.proofs.db.Db.give_back.Goals as goal

pub release-requires-clause-holding : goal.release-requires-clause-holding
release-requires-clause-holding g c = (
  c.requires.holding.0,
  subst (λ (s : DbValue g.row.D.Denot). IsHolding g.D.Disk s.frames c.args.pass.now
      (c.args.held ∷ c.requires.holding.0)) (sym c.self.view_is) c.requires.holding.1,
)

pub returns : goal.returns
returns g c =
    let a : DbValue g.row.D.Denot = record { frames = c.self.inside.frames; pending = c.self.inside.pending } in
    let b : DbValue g.row.D.Denot = record { frames = c.release.new.self; pending = c.self.inside.pending } in
    let f = c.release.ensures in
    subst (λ (s : DbValue g.row.D.Denot). GivesBack g.D.Disk s c.args.pass.now b c.release.new.pass (c.args.held ∷ []))
    c.self.view_is
    (given_back g.D.Disk a b refl c.args.pass.now c.release.new.pass c.args.held f.pass f.sees_on f.added f.rises f.same
    f.runs_on f.state f.pins f.lies f.others f.calm f.begins f.at_rest f.holding)
