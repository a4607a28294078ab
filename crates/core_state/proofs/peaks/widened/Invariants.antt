use Rattle.std.proofs.Common.{◌≡◌, ◌<◌, ◌≤◌, ℕ, length, get_or}
use Rattle.core_state.proofs.peaks.widened.Given as goal

abbrev pub invariant-loop-place : goal.invariant-loop-place
invariant-loop-place l = record {
  kept : (q : ℕ) → q < l.place → get_or l.wider q 0 ≡ get_or l.old q 0;
  flat : (q : ℕ) → l.place ≤ q → get_or l.wider q 0 ≡ 0;
  size : length l.wider ≡ l.width;
}
