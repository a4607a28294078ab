use Rattle.ts_make.proofs.Made.{no_fewer}
use Rattle.ts_make.proofs.laws.sketches_have_no_fewer.Goals as goal

pub returns : goal.returns
returns c known mapping tree sketch h = no_fewer known mapping tree sketch h
