use Rattle.ts_vector.proofs.Printing as printing
use Rattle.ts_vector.proofs.laws.printed_text_is_read.Goals as goal

pub returns : goal.returns
returns c = printing.printed_text_is_read
