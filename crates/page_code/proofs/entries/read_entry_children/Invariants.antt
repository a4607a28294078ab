use Rattle.std.proofs.Common.{◌≡◌, ◌-◌}
use Rattle.page_code.specs.Fields.{each_at}
use Rattle.page_code.specs.Bodies.{entry_child_at, entry_children_at}
use Rattle.page_code.proofs.entries.read_entry_children.Given as goal

abbrev pub invariant-loop-i : goal.invariant-loop-i
invariant-loop-i l = each_at (λ last behind rest. entry_child_at l.right last behind rest) (λ c. c.bound) l.last
    (l.count - l.i) l.children l.rest ≡ entry_children_at l.right l.count l.bytes
