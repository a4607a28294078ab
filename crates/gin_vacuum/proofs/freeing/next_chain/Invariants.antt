use Rattle.std.proofs.Common.{ℕ, take}
use Rattle.core_state.specs.Log.{In}
use Rattle.gin_vacuum.specs.Inner.Freeing.{HasNoChain}
use Rattle.gin_vacuum.proofs.freeing.next_chain.Given as goal

abbrev pub invariant-loop-k : goal.invariant-loop-k
invariant-loop-k l = (i : ℕ) → In i (take l.k l.items) → HasNoChain l.page i
