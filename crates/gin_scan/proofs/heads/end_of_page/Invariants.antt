use Rattle.std.proofs.Common.{◌≡◌, ◌-◌, ℕ, ◌<◌, ◌≤◌, Bool, Some, length, slice_get}
use Rattle.core_state.specs.Documents.{page_of}
use Rattle.gin_scan.proofs.heads.end_of_page.Given as goal

abbrev pub invariant-loop-end : goal.invariant-loop-end
invariant-loop-end l = record {
  behind : l.from ≤ l.end;
  within : l.end ≤ length l.kept;
  here : (k item : ℕ) (sure : Bool) → l.from ≤ k → k < l.end → slice_get l.kept k ≡ Some (item, sure)
      → page_of item ≡ l.page;
}

abbrev pub decreases-loop-end : goal.decreases-loop-end
decreases-loop-end l = length l.kept - l.end
