use Rattle.std.proofs.Common.{◌≡◌, ◌≤◌, length, take}
use Rattle.core_state.specs.Inner.Members.{members_of}
use Rattle.core_state.proofs.members.shared.Given as goal

abbrev pub invariant-loop-k : goal.invariant-loop-k
invariant-loop-k l = record {
  within : l.k ≤ length (members_of l.b);
  front : take l.k (members_of l.a) ≡ take l.k (members_of l.b);
}
