use Rattle.std.proofs.Common.{◌≡◌, ◌≤◌, subst}
use Rattle.std.specs.Prelude.{None}
use Rattle.core_state.specs.Inner.Begun.{Kept}
use Rattle.core_state.specs.States.{transaction}
use Rattle.core_state.proofs.BegunOnes.{none_past}
use Rattle.core_state.proofs.running.RunningOnes.reserve.Goals as goal

pub returns-clause-fresh : goal.returns-clause-fresh
returns-clause-fresh c x le =
    subst (λ (k : Kept). k.end ≤ x → transaction x k.list ≡ None) c.self.view_is
    (none_past c.self.inside.begun.items 0 x c.self.invariant.0) le
