use Rattle.std.proofs.Common.{[]}
use Rattle.store_cases.proofs.frames_tests.pin.Goals as goal

pub returns-clause-idle : goal.returns-clause-idle
returns-clause-idle g c = c.pin.ensures.keeps.holding []
