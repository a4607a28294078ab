use Rattle.std.proofs.Common.{[]}
use Rattle.buffer_frames.proofs.PassesOf.{of_other}
use Rattle.store_cases.proofs.frames_tests.tells.Goals as goal

pub returns-clause-others : goal.returns-clause-others
returns-clause-others g c p idle of =
    let said = c.look.ensures in
    of_other c.args.frames.now c.look.new.self p idle said.pins said.runs_on.flushed said.added.longer said.state.work
    of

pub returns-clause-idle : goal.returns-clause-idle
returns-clause-idle g c = c.look.ensures.holding []
