use Rattle.buffer_frames.proofs.PassesOf.{of_other}
use Rattle.store_cases.proofs.frames_tests.flush.Goals as goal

pub returns-clause-others : goal.returns-clause-others
returns-clause-others g c p idle of =
    let said = c.flush_log.ensures in
    of_other c.args.frames.now c.flush_log.new.self p idle said.pins said.runs_on.flushed said.added.longer
    said.state.work
    of
