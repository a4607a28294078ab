use Rattle.std.proofs.Common.{◌∷◌, length, sym, ap, subst, arith}
use Rattle.page_types.specs.Items.{item_list_from, AreItemsFrom}
use Rattle.posting_code.specs.Inner.Places.{items_left}
use Rattle.posting_code.proofs.Places.{next_place, no_place}
use Rattle.posting_code.proofs.Sizing.{length-from}
use Rattle.posting_code.proofs.Taking.{list_small}
use Rattle.posting_code.proofs.merging.run_size.Goals as goal

pub overflow_sub-first : goal.overflow_sub-first
overflow_sub-first c =
    let n =
    next_place c.args.before c.args.run.now c.in-Ok.first c.in-Ok.after.now c.requires.run c.in-Ok.ensures.next in
    let first = subst (AreItemsFrom c.args.last) n.left c.requires.above in
    omega (arith, first.0)

pub varbyte_size-requires : goal.varbyte_size-requires
varbyte_size-requires c =
    let n =
    next_place c.args.before c.args.run.now c.in-Ok.first c.in-Ok.after.now c.requires.run c.in-Ok.ensures.next in
    let first = subst (AreItemsFrom c.args.last) n.left c.requires.above in
    omega (arith, first.1)

pub overflow_add-result : goal.overflow_add-result
overflow_add-result c =
    let n =
    next_place c.args.before c.args.run.now c.in-Ok.first c.in-Ok.after.now c.requires.run c.in-Ok.ensures.next in
    let first = subst (AreItemsFrom c.args.last) n.left c.requires.above in
    let small = list_small c.args.last (c.in-Ok.first ∷ items_left c.in-Ok.first c.in-Ok.after.now) first in
    omega (
      arith,
      small,
      length-from c.args.last c.in-Ok.first (items_left c.in-Ok.first c.in-Ok.after.now),
      ap length n.stands.list,
      c.varbyte_size.ensures,
    )

pub returns-in-Ok : goal.returns-in-Ok
returns-in-Ok c =
    let n =
    next_place c.args.before c.args.run.now c.in-Ok.first c.in-Ok.after.now c.requires.run c.in-Ok.ensures.next in
    omega (
      arith,
      ap (λ l. length (item_list_from c.args.last l)) n.left,
      length-from c.args.last c.in-Ok.first (items_left c.in-Ok.first c.in-Ok.after.now),
      ap length n.stands.list,
      c.varbyte_size.ensures,
    )

pub returns-in-Err : goal.returns-in-Err
returns-in-Err c = ap (λ l. length (item_list_from c.args.last l))
    (sym (no_place c.args.before c.args.run.now c.in-Err.field-0 c.requires.run c.in-Err.ensures.next))
