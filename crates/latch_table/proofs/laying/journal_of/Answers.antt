use Rattle.std.proofs.Common.{sym, ◌∙◌}
use Rattle.latch_table.proofs.Popped.{last_is, last_of_two}
use Rattle.latch_table.proofs.laying.journal_of.Goals as goal

pub unreachable-requires-in_default-slot : goal.unreachable-requires-in_default-slot
unreachable-requires-in_default-slot g c =
    let r = c.requires in
    let one = last_of_two _ _ _ _ _ (sym r.2 ∙ c.in-Some.ensures.items) in c.in_default-slot.not-Away one.1

pub unreachable-requires-in_default-slot-2 : goal.unreachable-requires-in_default-slot-2
unreachable-requires-in_default-slot-2 g c =
    let r = c.requires in
    let one = last_of_two _ _ _ _ _ (sym r.2 ∙ c.in-Some.ensures.items) in
    let two = last_is _ _ _ _ (sym one.0 ∙ c.in-Some-pop.ensures.items) in c.in_default-slot-2.not-Journal r.1 two.1

pub drop_frames-requires : goal.drop_frames-requires
drop_frames-requires g c =
    let r = c.requires in
    let one = last_of_two _ _ _ _ _ (sym r.2 ∙ c.in-Some.ensures.items) in
    let two = last_is _ _ _ _ (sym one.0 ∙ c.in-Some-pop.ensures.items) in (r.0, two.0)

pub returns : goal.returns
returns g c frames b is =
    let one = last_of_two _ _ _ _ _ (sym is ∙ c.in-Some.ensures.items) in
    let two = last_is _ _ _ _ (sym one.0 ∙ c.in-Some-pop.ensures.items) in
    let last = two.1 in cc (last, c.in-Journal.is)
