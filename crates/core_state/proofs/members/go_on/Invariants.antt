use Rattle.std.proofs.Common.{◌≡◌, ◌+◌, drop}
use Rattle.std.specs.Prelude.{◌↔◌}
use Rattle.core_state.specs.Inner.Members.{members_of}
use Rattle.core_state.proofs.members.go_on.Given as goal

abbrev pub invariant-loop-k : goal.invariant-loop-k
invariant-loop-k l =
    (drop l.i (members_of l.a) ≡ drop l.j (members_of l.b))
    ↔ (drop (l.i + l.k) (members_of l.a) ≡ drop (l.j + l.k) (members_of l.b))
