use Rattle.page_types.specs.Encoding.{slot_bytes}
use Rattle.page_code.proofs.Appending.{PutsFirst}
use Rattle.page_code.proofs.writing.put_slots.Given as goal

abbrev pub invariant-loop-k : goal.invariant-loop-k
invariant-loop-k l = PutsFirst slot_bytes l.slots l.k l.at l.initial.out l.end l.out
