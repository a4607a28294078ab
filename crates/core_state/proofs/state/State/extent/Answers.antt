use Rattle.std.proofs.Common.{ap, arith}
use Rattle.core_state.specs.Rooms.{InMemory}
use Rattle.core_state.proofs.LastUses.{extent_is}
use Rattle.core_state.proofs.state.State.extent.Goals as goal

pub returns : goal.returns
returns c =
    extent_is c.args.self.now.value c.self.inside.uses.items c.max.result
    (ap (λ (h : InMemory). h.value.uses) c.self.view_is) c.self.invariant.0.ends
    (omega (arith, c.max.ensures, c.pages.ensures, c.len.ensures, c.self.inside.uses.ok.1))
