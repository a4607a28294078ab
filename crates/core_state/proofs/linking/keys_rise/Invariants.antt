use Rattle.std.proofs.Common.{◌≡◌, ◌<◌, ◌≤◌, ℕ, suc}
use Rattle.std.specs.Prelude.{Some}
use Rattle.std.specs.List.{slice_get}
use Rattle.ts_base.specs.Keys.{Key}
use Rattle.page_types.specs.Keys.{KeyLess}
use Rattle.page_types.specs.Parts.{pieces_shown}
use Rattle.core_state.proofs.linking.keys_rise.Given as goal

abbrev pub invariant-loop-j : goal.invariant-loop-j
invariant-loop-j l = (1 ≤ l.j) × ((i : ℕ) (x y : Key) → suc i < l.j → slice_get (pieces_shown l.keys) i ≡ Some x
    → slice_get (pieces_shown l.keys) (suc i) ≡ Some y → KeyLess x y)
