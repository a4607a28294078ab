use Rattle.std.proofs.Common.{◌≡◌, ◌-◌, ◌+◌}
use Rattle.page_code.specs.Fields.{each_at}
use Rattle.page_code.specs.Bodies.{post_child_at, post_children_at}
use Rattle.page_code.proofs.postings.read_post_children.Given as goal

abbrev pub invariant-loop-i : goal.invariant-loop-i
invariant-loop-i l = each_at (λ least behind rest. post_child_at l.right least behind rest) (λ c. c.bound + 1) l.least
    (l.count - l.i) l.children l.rest ≡ post_children_at l.right l.count l.bytes
