use Rattle.std.proofs.Common.{refl, ap}
use Rattle.latch_table.specs.Passes.{state}
use Rattle.latch_table.specs.PassStates.{without_work}
use Rattle.latch_table.proofs.Passing.{like_pass}
use Rattle.latch_table.proofs.table.LatchTable.give_back_work.Goals as goal

pub returns-clause-pass : goal.returns-clause-pass
returns-clause-pass g c =
    let gave = c.put_work.ensures in
    like_pass _ c.args.pass.now _ (without_work (state c.args.pass.now)) c.requires.pass gave.same.0
    (ap (λ m. m.0) gave.given)
    refl refl refl refl refl (ap (λ m. m.1) gave.given) refl
