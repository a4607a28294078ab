use Rattle.std.proofs.Common.{◌≡◌, ◌≤◌, ◌+◌, ◌-◌, length, drop}
use Rattle.ts_parser.specs.TokensOf.{blank_len}
use Rattle.ts_parser.proofs.forms.blank_len.Given as goal

abbrev pub invariant-loop-n : goal.invariant-loop-n
invariant-loop-n l = (l.n ≤ length l.u) × (blank_len l.fn.before l.u ≡ l.n + blank_len l.last (drop l.n l.u))

abbrev pub decreases-loop-n : goal.decreases-loop-n
decreases-loop-n l = length l.u - l.n
