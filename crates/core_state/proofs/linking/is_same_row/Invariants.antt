use Rattle.std.proofs.Common.{◌≡◌, drop}
use Rattle.std.specs.Prelude.{◌↔◌}
use Rattle.page_types.specs.Parts.{pieces_shown}
use Rattle.core_state.proofs.linking.is_same_row.Given as goal

abbrev pub invariant-loop-j : goal.invariant-loop-j
invariant-loop-j l = (pieces_shown l.a.keys ≡ pieces_shown l.b.keys)
    ↔ (drop l.j (pieces_shown l.a.keys) ≡ drop l.j (pieces_shown l.b.keys))
