use Rattle.std.proofs.Common.{ℕ, ◌<◌, ◌≤◌, take, All}
use Rattle.page_types.specs.Numbers.{page_limit}
use Rattle.page_types.specs.declared.record.Change.{Change}
use Rattle.core_state.proofs.uses.pages_end.Given as goal

abbrev pub invariant-loop-change : goal.invariant-loop-change
invariant-loop-change l = record {
  above : All (λ (c : Change). c.page < page_limit → c.page < l.end) (take l.change-index l.changes);
  least : (most : ℕ) → All (λ (c : Change). c.page < page_limit → c.page < most) l.changes → l.end ≤ most;
}
