use Rattle.page_types.specs.Encoding.{entry_bytes}
use Rattle.page_code.proofs.Appending.{PutsFirst}
use Rattle.page_code.proofs.writing.put_leaf.Given as goal

abbrev pub invariant-loop-k : goal.invariant-loop-k
invariant-loop-k l = PutsFirst entry_bytes l.entries l.k l.initial.end l.initial.out l.end l.out
