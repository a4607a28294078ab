use Rattle.page_types.specs.Encoding.{post_child_bytes}
use Rattle.page_code.proofs.Appending.{PutsFirst}
use Rattle.page_code.proofs.writing.put_post_children.Given as goal

abbrev pub invariant-loop-child : goal.invariant-loop-child
invariant-loop-child l = PutsFirst post_child_bytes l.all l.child-index l.at l.initial.out l.end l.out
