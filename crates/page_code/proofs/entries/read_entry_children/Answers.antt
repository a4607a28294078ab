use Rattle.std.proofs.Common.{refl}
use Rattle.std.proofs.lemmas.Result.{err_from_is_err_and}
use Rattle.page_types.specs.Parts.{child_shown}
use Rattle.page_code.specs.Bodies.{entry_child_at, entry_children_at}
use Rattle.page_code.proofs.Loops.{goes_on, ends, is_done}
use Rattle.page_code.proofs.entries.read_entry_children.Goals as goal

pub returns-in_err-child : goal.returns-in_err-child
returns-in_err-child c =
    let p = err_from_is_err_and c.from_residual.result c.from_residual.ensures.1 in
    rw (p.1, p.2) (ends (λ last behind rest. entry_child_at c.args.right last behind rest) (λ c. c.bound)
    c.in_err-child.field-0.0 c.loop-i.last.now c.args.count c.loop-i.i c.loop-i.children c.loop-i.rest.now
    (entry_children_at c.args.right c.args.count c.args.bytes.now) c.loop-i-test.true c.in_err-child.ensures
    c.loop-i.invariant)

pub loop-i-preserved : goal.loop-i-preserved
loop-i-preserved c =
    rw c.in_ok-push.ensures.ok (goes_on (λ last behind rest. entry_child_at c.args.right last behind rest)
    (λ c. c.bound) c.loop-i.last.now c.in_ok-child.child.bound.now c.args.count c.loop-i.i c.loop-i.children
    c.loop-i.rest.now (child_shown c.in_ok-child.child) c.in_ok-child.behind.now (entry_children_at c.args.right
    c.args.count c.args.bytes.now) c.loop-i-test.true c.in_ok-child.ensures refl c.loop-i.invariant)

pub returns : goal.returns
returns c = is_done (λ last behind rest. entry_child_at c.args.right last behind rest)
    (λ c. c.bound) c.loop-i.last.now c.args.count c.loop-i.i c.loop-i.children c.loop-i.rest.now
    (entry_children_at c.args.right c.args.count c.args.bytes.now) c.loop-i-test.false c.loop-i.invariant
