use Rattle.std.proofs.Common.{◌-◌, ◌++◌, ap, sym, subst, ◌∙◌, append_assoc, arith}
use Rattle.std.proofs.lemmas.List.{append-nil}
use Rattle.page_types.specs.Items.{varbyte, item_list_from, AreItemsFrom}
use Rattle.posting_code.proofs.Places.{next_place, no_place}
use Rattle.posting_code.proofs.merging.put_run.Goals as goal

pub overflow_sub-first : goal.overflow_sub-first
overflow_sub-first c =
    let n =
    next_place c.args.before c.args.run.now c.in-Ok.first c.in-Ok.after.now c.requires.run c.in-Ok.ensures.next in
    let first = subst (AreItemsFrom c.args.last) n.left c.requires.above in
    omega (arith, first.0)

pub put_varbyte-requires : goal.put_varbyte-requires
put_varbyte-requires c =
    let n =
    next_place c.args.before c.args.run.now c.in-Ok.first c.in-Ok.after.now c.requires.run c.in-Ok.ensures.next in
    let first = subst (AreItemsFrom c.args.last) n.left c.requires.above in
    omega (arith, first.1)

pub returns-in_ok-extend_from_slice-in-Ok-clause-ok : goal.returns-in_ok-extend_from_slice-in-Ok-clause-ok
returns-in_ok-extend_from_slice-in-Ok-clause-ok c =
    let n =
    next_place c.args.before c.args.run.now c.in-Ok.first c.in-Ok.after.now c.requires.run c.in-Ok.ensures.next in
    c.in_ok-extend_from_slice-in-Ok.ensures.items
    ∙ ap (λ o. o ++ c.in-Ok.after.now) c.in_ok-put_varbyte-in-Ok.ensures.ok
    ∙ append_assoc c.args.out.now.items (varbyte (c.in-Ok.first - c.args.last)) c.in-Ok.after.now
    ∙ ap (λ l. c.args.out.now.items ++ (varbyte (c.in-Ok.first - c.args.last) ++ l)) n.stands.list
    ∙ ap (λ l. c.args.out.now.items ++ item_list_from c.args.last l) (sym n.left)

pub returns-in-Err-clause-ok : goal.returns-in-Err-clause-ok
returns-in-Err-clause-ok c =
    sym (ap (λ l. c.args.out.now.items ++ item_list_from c.args.last l) (no_place c.args.before c.args.run.now
    c.in-Err.field-0 c.requires.run c.in-Err.ensures.next) ∙ append-nil c.args.out.now.items)
