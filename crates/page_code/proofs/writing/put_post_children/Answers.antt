use Rattle.std.proofs.Common.{List, get_or, length, ap, arith}
use Rattle.std.proofs.lemmas.Option.{slice_get-get_or}
use Rattle.std.specs.List.{flat_map}
use Rattle.page_types.specs.declared.page.PostChild.{PostChild}
use Rattle.page_types.specs.Encoding.{post_child_bytes}
use Rattle.page_code.proofs.Appending.{first_none, first_room, first_more, first_all}
use Rattle.page_code.proofs.writing.put_post_children.Goals as goal

-- what a place after the last would give
abbrev no_child : PostChild
no_child = record { page = 0; bound = 0 }

pub loop-child-init : goal.loop-child-init
loop-child-init c = first_none post_child_bytes c.as_slice-all.result.now c.args.at c.args.out.now

pub put_post_child-end-requires : goal.put_post_child-end-requires
put_post_child-end-requires c =
    let all = c.as_slice-all.result.now in
    let size = ap (λ (xs : List PostChild). length (flat_map post_child_bytes xs)) c.as_slice-all.ensures in
    first_room post_child_bytes all c.loop-child.child-index c.args.at c.args.out.now c.loop-child.end
    c.loop-child.out (get_or all c.loop-child.child-index no_child) _ c.loop-child.invariant
    (slice_get-get_or all c.loop-child.child-index no_child c.loop-child-test.true) (omega (arith, c.requires, size))

pub loop-child-preserved : goal.loop-child-preserved
loop-child-preserved c =
    let all = c.as_slice-all.result.now in
    first_more post_child_bytes all c.loop-child.child-index c.args.at c.args.out.now c.loop-child.end
    c.loop-child.out (get_or all c.loop-child.child-index no_child) c.put_post_child-end.result
    c.put_post_child-end.new.out c.loop-child.invariant
    (slice_get-get_or all c.loop-child.child-index no_child c.loop-child-test.true) (omega (arith, c.requires))
    c.put_post_child-end.ensures

pub returns : goal.returns
returns c =
    rw (← c.as_slice-all.ensures)
    (first_all post_child_bytes c.as_slice-all.result.now c.loop-child.child-index c.args.at c.args.out.now
    c.loop-child.end c.loop-child.out c.loop-child.invariant c.loop-child-test.false)
