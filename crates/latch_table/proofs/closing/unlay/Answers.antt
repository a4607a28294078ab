use Rattle.std.proofs.Common.{arith, ◌≡◌, ◌-◌, Bool, false, List, get_or, set, sym, ap, subst, ◌∙◌}
use mathlib.Core.Option.{some}
use lib.ListN.{get_elem?}
use Rattle.std.specs.Slots.{slots_items}
use Rattle.latch_table.specs.declared.slots.Slot.{Slot}
use Rattle.latch_table.specs.declared.slots.Slot.TheVariants.{Journal, Away}
use Rattle.latch_table.proofs.Closes.{set_false}
use Rattle.latch_table.proofs.closing.unlay.Goals as goal

pub drop_first-requires-clause-frames : goal.drop_first-requires-clause-frames
drop_first-requires-clause-frames g c k lt = let all = c.slot_count-count.ensures in c.requires.frames k (omega arith)

pub free-requires : goal.free-requires
free-requires g c k lt =
    let n = c.slot_count-count.result in
    let all = c.slot_count-count.ensures in
    let long = c.drop_first.ensures.length in
    let one = c.take-slot.ensures.others in
    let two = c.take-slot-2.ensures.others in
    let shorter = one.2 in
    let same = two.2 in
    subst (λ (fs : List Bool). get_or fs k false ≡ false)
    (sym (two.1 ∙ ap (λ (fs : List Bool). set fs (n - 1) false) one.1))
    (set_false _ _ k (λ ne. set_false _ _ k (λ ne'. c.drop_first.ensures.empty k (omega arith))))

pub unreachable-requires : goal.unreachable-requires
unreachable-requires g c =
    let T : Type 0 = Slot g.row.F.Denot g.row.J.Denot in
    let n = c.slot_count-count.result in
    let j = c.requires.journal in
    let at : j.1 ≡ n - 2 = (let e = j.2 in let s = c.slot_count-count.ensures in omega arith) in
    let is : some c.take-slot.result ≡ some (Journal j.0)
    = sym c.take-slot.ensures.value ∙ ap (λ (l : List T). get_elem? l (n - 2)) c.drop_first.ensures.items
    ∙ ap (get_elem? (slots_items c.args.closed.slots)) (sym at) ∙ j.3 in
    let same : c.take-slot.result ≡ Journal j.0 = cc is in c.in_default.not-Journal j.0 same

pub unreachable-requires-in_default-slot : goal.unreachable-requires-in_default-slot
unreachable-requires-in_default-slot g c =
    let T : Type 0 = Slot g.row.F.Denot g.row.J.Denot in
    let n = c.slot_count-count.result in
    let j = c.requires.journal in
    let e = j.2 in
    let s = c.slot_count-count.ensures in
    let others = c.take-slot.ensures.others in
    let is : some c.take-slot-2.result ≡ some Away
    = sym c.take-slot-2.ensures.value
    ∙ ap (λ (l : List T). get_elem? l (n - 1)) (others.0 ∙ c.drop_first.ensures.items)
    ∙ c.requires.last (n - 1) (omega arith) in
    let same : c.take-slot-2.result ≡ Away = cc is in c.in_default-slot.not-Away same

pub take-slot-requires : goal.take-slot-requires
take-slot-requires g c =
    let s = c.slot_count-count.ensures in
    let j = c.requires.journal in
    let e = j.2 in
    let long = c.drop_first.ensures.length in
    (omega arith, c.drop_first.ensures.rest (c.slot_count-count.result - 2) (omega arith) (omega arith))

pub returns : goal.returns
returns g c k b at there =
    let T : Type 0 = Slot g.row.F.Denot g.row.J.Denot in
    let n = c.slot_count-count.result in
    let same : k ≡ n - 2 = (let s = c.slot_count-count.ensures in omega arith) in
    let is : some c.take-slot.result ≡ some (Journal b)
    = sym c.take-slot.ensures.value ∙ ap (λ (l : List T). get_elem? l (n - 2)) c.drop_first.ensures.items
    ∙ ap (get_elem? (slots_items c.args.closed.slots)) (sym same) ∙ there in
    cc (is, c.in-Journal.is)
