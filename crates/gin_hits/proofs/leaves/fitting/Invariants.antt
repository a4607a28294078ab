use Rattle.std.proofs.Common.{◌≡◌, ℕ, ◌≤◌, ◌<◌, ◌-◌, true, length}
use Rattle.std.specs.Prelude.{Some}
use Rattle.std.specs.List.{slice_get}
use Rattle.page_types.specs.declared.page.Entry.{Entry}
use Rattle.core_moments.specs.Judging.{fits_asked}
use Rattle.gin_hits.specs.Rows.{asked_for}
use Rattle.gin_hits.proofs.leaves.fitting.Given as goal

abbrev pub invariant-loop-end : goal.invariant-loop-end
invariant-loop-end g l = record {
  ordered : l.from ≤ l.end;
  within : l.end ≤ length l.entries;
  here : (j : ℕ) (e : Entry) → slice_get l.entries j ≡ Some e → l.from ≤ j → j < l.end
      → fits_asked (asked_for l.asked l.prefix) e.key ≡ true;
}

abbrev pub decreases-loop-end : goal.decreases-loop-end
decreases-loop-end g l = length l.entries - l.end
