-- The end of the pending list is given back.
use Rattle.std.proofs.Common.{◌∷◌, ◌++◌, sym, subst}
use Rattle.std.specs.Prelude.{Option}
use Rattle.core_state.specs.Allowed.{Sheet}
use Rattle.buffer_frames.specs.Passes.{IsHolding}
use Rattle.engine.specs.Inner.Choosing.{GivesBack}
use Rattle.engine.specs.Inner.Indexing.{end_sheets}
use Rattle.engine.proofs.ListEnds.{both_back}
use Rattle.engine.proofs.db.Db.release_list.Goals as goal

pub give_back-requires-clause-holding : goal.give_back-requires-clause-holding
give_back-requires-clause-holding g c =
    let h = c.requires.holding in (
      c.args.end.meta ∷ h.0,
      subst (λ (o : Option Sheet). IsHolding g.D.Disk c.args.self.now.frames c.args.pass.now
          (end_sheets c.args.end.meta o ++ h.0)) c.in-Some.is h.1,
    )

pub give_back-requires-in-Some-clause-holding : goal.give_back-requires-in-Some-clause-holding
give_back-requires-in-Some-clause-holding g c =
    let h = c.requires.holding in (
      h.0,
      c.give_back.ensures.holding (c.args.end.meta ∷ h.0)
          (subst (λ (o : Option Sheet). IsHolding g.D.Disk c.args.self.now.frames c.args.pass.now
          (end_sheets c.args.end.meta o ++ h.0)) c.in-Some.is h.1),
    )

pub returns-in-Some : goal.returns-in-Some
returns-in-Some g c =
    subst (λ (o : Option Sheet). GivesBack g.D.Disk c.args.self.now c.args.pass.now c.give_back-in-Some.new.self
    c.give_back-in-Some.new.pass (end_sheets c.args.end.meta o)) (sym c.in-Some.is)
    (both_back g.D.Disk c.args.self.now c.give_back.new.self c.give_back-in-Some.new.self c.args.pass.now
    c.give_back.new.pass c.give_back-in-Some.new.pass c.in-Some.last c.args.end.meta c.give_back.ensures
    c.give_back-in-Some.ensures)

pub give_back-requires-in-None-clause-holding : goal.give_back-requires-in-None-clause-holding
give_back-requires-in-None-clause-holding g c =
    let h = c.requires.holding in (
      h.0,
      subst (λ (o : Option Sheet). IsHolding g.D.Disk c.args.self.now.frames c.args.pass.now
          (end_sheets c.args.end.meta o ++ h.0)) c.in-None.is h.1,
    )

pub returns-in-None : goal.returns-in-None
returns-in-None g c =
    subst (λ (o : Option Sheet). GivesBack g.D.Disk c.args.self.now c.args.pass.now c.give_back-in-None.new.self
    c.give_back-in-None.new.pass (end_sheets c.args.end.meta o)) (sym c.in-None.is) c.give_back-in-None.ensures
