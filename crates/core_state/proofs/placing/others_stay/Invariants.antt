use Rattle.std.proofs.Common.{◌≡◌, ◌≢◌, ◌<◌, ℕ}
use Rattle.page_types.specs.Views.{slot_at}
use Rattle.core_state.proofs.placing.others_stay.Given as goal

abbrev pub invariant-loop-j : goal.invariant-loop-j
invariant-loop-j l = (i : ℕ) → i < l.j → i ≢ l.k → slot_at l.new i ≡ slot_at l.slots i
