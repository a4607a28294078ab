use Rattle.ts_words.proofs.Lists.{lines_have_one_reading}
use Rattle.ts_words.proofs.laws.lines_have_one_reading.Goals as goal

pub returns : goal.returns
returns c = lines_have_one_reading
