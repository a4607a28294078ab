use Rattle.std.proofs.Common.{[], arith}
use Rattle.store_cases.proofs.frames_tests.is_held_once.Goals as goal

pub hold-again-requires-clause-few : goal.hold-again-requires-clause-few
hold-again-requires-clause-few g c = omega (arith, (c.in_ok-meta.ensures.holding [] c.requires.idle).all)
