use Rattle.page_types.specs.Encoding.{row_bytes}
use Rattle.page_code.proofs.Appending.{PutsFirst}
use Rattle.page_code.proofs.writing.put_rows.Given as goal

abbrev pub invariant-loop-k : goal.invariant-loop-k
invariant-loop-k l = PutsFirst row_bytes l.rows l.k l.at l.initial.out l.end l.out
