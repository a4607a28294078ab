use Rattle.std.proofs.Common.{[]}
use Rattle.store_cases.proofs.frames_tests.is_held.Goals as goal

pub returns-in_err-held-clause-idle : goal.returns-in_err-held-clause-idle
returns-in_err-held-clause-idle g c = c.in_err-held.ensures.still [] c.requires.idle

pub release-requires-clause-holding : goal.release-requires-clause-holding
release-requires-clause-holding g c = ([], c.in_ok-held.ensures.holding [] c.requires.idle)

pub returns-clause-idle : goal.returns-clause-idle
returns-clause-idle g c = c.release.ensures.holding [] (c.in_ok-held.ensures.holding [] c.requires.idle)
