use Rattle.std.proofs.Common.{◌≡◌, ◌≤◌, ◌+◌, ◌-◌, length, drop}
use Rattle.ts_parser.specs.NumberForms.{groups_len}
use Rattle.ts_parser.proofs.bytes.groups_len.Given as goal

abbrev pub invariant-loop-n : goal.invariant-loop-n
invariant-loop-n l = (l.n ≤ length l.u) × (groups_len l.u ≡ l.n + groups_len (drop l.n l.u))

abbrev pub decreases-loop-n : goal.decreases-loop-n
decreases-loop-n l = length l.u - l.n
