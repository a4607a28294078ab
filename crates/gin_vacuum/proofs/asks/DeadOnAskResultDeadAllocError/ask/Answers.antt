use Rattle.std.proofs.Common.{◌≡◌, ◌+◌, ℕ, suc, subst, arith}
use Rattle.gin_vacuum.specs.Inner.Asked.{IsHeapFrom}
use Rattle.gin_vacuum.proofs.asks.DeadOnAskResultDeadAllocError.ask.Goals as goal

pub returns : goal.returns
returns c =
    let after : c.number.result + 1 ≡ suc c.args.self.now.held.now.page = omega (arith, c.number.ensures.value) in (
      c.in_ok-items.ensures,
      subst (λ (n : ℕ). IsHeapFrom n c.args.state.now.value c.heap_from.result) after c.heap_from.ensures,
    )
