use Rattle.page_types.specs.Parts.{pieces_shown}
use Rattle.page_types.specs.Encoding.{key_field}
use Rattle.page_code.proofs.Appending.{PutsFirst}
use Rattle.page_code.proofs.writing.put_keys.Given as goal

abbrev pub invariant-loop-k : goal.invariant-loop-k
invariant-loop-k l = PutsFirst key_field (pieces_shown l.keys) l.k l.at l.initial.out l.end l.out
