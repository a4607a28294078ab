use Rattle.std.proofs.Common.{◌≡◌, List, sym, ap, ◌∙◌}
use mathlib.Core.Option.{some}
use lib.ListN.{get_elem?}
use Rattle.latch_table.specs.declared.slots.Slot.{Slot}
use Rattle.latch_table.specs.declared.slots.Slot.TheVariants.{Frame}
use Rattle.latch_table.proofs.closing.drop_first.Goals as goal

pub unreachable-requires : goal.unreachable-requires
unreachable-requires g c =
    let t = c.requires.frames c.loop-i.i c.loop-i-test.true in
    let is : some c.take-slot.result ≡ some (Frame t.0)
    = sym c.take-slot.ensures.value
    ∙ ap (λ (l : List (Slot g.row.F.Denot g.row.J.Denot)). get_elem? l c.loop-i.i) c.loop-i.invariant.0 ∙ t.1 in
    let same : c.take-slot.result ≡ Frame t.0 = cc is in
    c.in_default.not-Frame t.0 same
