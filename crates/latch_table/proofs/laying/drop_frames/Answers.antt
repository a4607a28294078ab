use Rattle.std.proofs.Common.{sym, ◌∙◌}
use Rattle.latch_table.proofs.Popped.{last_frame}
use Rattle.latch_table.proofs.laying.drop_frames.Goals as goal

pub unreachable-requires : goal.unreachable-requires
unreachable-requires g c =
    let i = c.loop-slot.invariant in
    let t = last_frame i.0 c.pop.new.self.items c.in-Some.slot (sym i.1 ∙ c.in-Some.ensures.items) in
    c.in_default-slot.not-Frame t.1 t.3

pub loop-slot-preserved : goal.loop-slot-preserved
loop-slot-preserved g c =
    let i = c.loop-slot.invariant in
    let t = last_frame i.0 c.pop.new.self.items c.in-Some.slot (sym i.1 ∙ c.in-Some.ensures.items) in
    (t.0, t.2)
