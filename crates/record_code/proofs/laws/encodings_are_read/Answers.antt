use Rattle.record_code.proofs.RecordReading.{reading_is_encoded, encoding_is_read}
use Rattle.record_code.proofs.laws.encodings_are_read.Goals as goal

pub returns-clause-found : goal.returns-clause-found
returns-clause-found c = reading_is_encoded

pub returns-clause-only : goal.returns-clause-only
returns-clause-only c = encoding_is_read
