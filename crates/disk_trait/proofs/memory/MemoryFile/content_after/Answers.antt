use Rattle.std.proofs.Common.{◌≡◌, ◌<◌, List, length, take, get_or, subst, ◌∙◌, arith, length-take-le}
use Rattle.std.proofs.lemmas.List.{get_or-take}
use Rattle.disk_trait.specs.declared.past.Event.{Event}
use Rattle.disk_trait.proofs.Replaying.{content_more}
use Rattle.disk_trait.proofs.memory.MemoryFile.content_after.Goals as goal

pub loop-event-preserved : goal.loop-event-preserved
loop-event-preserved c =
    let es = c.args.self.now.events.items in
    let e = c.event-item.result in
    let i = c.loop-event.event-index in
    let short : i < length (take c.args.count es) =
    subst (λ (l : List Event). i < length (take c.args.count l)) c.deref-2.ensures.value c.loop-event-test.true in
    let few = length-take-le c.args.count es c.requires in
    let here : e ≡ get_or (take c.args.count es) i e =
    subst (λ (l : List Event). e ≡ get_or (take c.args.count l) i e) c.deref-2.ensures.value c.event-item.is in
    content_more c.args.self.now.first.items c.args.moment es i e c.loop-event.now.items c.redo_until.new.now.items
    (omega (arith, short, few, c.requires)) (here ∙ get_or-take c.args.count es i e (omega (arith, short, few)))
    c.in_ok-redo_until.ensures.on c.in_ok-redo_until.ensures.off c.loop-event.invariant
