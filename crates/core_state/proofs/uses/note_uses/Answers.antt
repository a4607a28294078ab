use Rattle.std.proofs.Common.{arith, refl, sym, subst, ◌<◌}
use Rattle.std.specs.Vec.{vec_capacity}
use Rattle.page_types.specs.Numbers.{page_limit}
use Rattle.page_types.specs.declared.record.Change.{Change}
use Rattle.core_state.proofs.uses.note_uses.Goals as goal

pub loop-change-init : goal.loop-change-init
loop-change-init c = record { items = refl; ranked = c.requires.ranked; room = refl; size = refl }

pub note_change-requires-clause-uses : goal.note_change-requires-clause-uses
note_change-requires-clause-uses c small =
    let here : c.change-item.result.page < page_limit → c.change-item.result.page < vec_capacity c.args.uses.now =
    subst (λ (x : Change). x.page < page_limit → x.page < vec_capacity c.args.uses.now) (sym c.change-item.is)
    (c.requires.uses c.loop-change.change-index c.change-item.result c.loop-change-test.true) in
    let low = here small in
    let room = c.loop-change.invariant.room in omega arith

pub returns-clause-ranked : goal.returns-clause-ranked
returns-clause-ranked c = c.loop-change.invariant.ranked

pub returns-clause-room : goal.returns-clause-room
returns-clause-room c = c.loop-change.invariant.room
