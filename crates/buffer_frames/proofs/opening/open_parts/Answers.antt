use Rattle.std.proofs.Common.{sym, subst}
use Rattle.std.specs.Prelude.{None}
use Rattle.core_state.specs.States.{StateValue}
use Rattle.buffer_frames.specs.Opening.{IsOpenedAt}
use Rattle.buffer_frames.proofs.Flushing.{seen_as}
use Rattle.buffer_frames.proofs.Opened.{opened_at, run_at}
use Rattle.buffer_frames.proofs.opening.open_parts.Goals as goal

pub returns-clause-opened : goal.returns-clause-opened
returns-clause-opened g c =
    let read = c.in_ok-wal.ensures.read in
    let ran = c.in_ok-wal.ensures.ran in
    let disk : g.row.D.Denot = c.read_store.new.disk in (
      ran.0,
      subst (λ (v : StateValue). IsOpenedAt g.D.Disk c.args.settings.now c.args.disk.now ran.0
          (seen_as disk c.begin_log.new.wal v c.commits-flushed.result c.in_ok-owes.owes disk None) c.in_ok-wal.map)
          (sym c.start_run.ensures)
          (run_at g.D.Disk c.args.settings.now c.args.disk.now disk c.begin_log.new.wal c.begin_log.new.state.value
          c.in_ok-wal.map ran.0 c.commits-flushed.result c.in_ok-owes.owes
          (opened_at g.D.Disk c.one_list.ensures.opens c.args.settings.now c.args.disk.now c.read_store.new.disk
          c.in_ok-wal.wal c.begin_log.new.wal c.in_ok-wal.state.value c.begin_log.new.state.value c.in_ok-wal.map
          read.0 c.commits-flushed.result c.in_ok-owes.owes
          (λ t d. g.met.D.Disk.seen_is_image d t) read.1 ran.0 ran.1 c.read_store.ensures.cause.time
          c.read_store.ensures.cause.later c.in_ok-wal.ensures.cause.at_ok c.in_ok-wal.ensures.below_last
          c.commits-flushed.ensures c.in_ok-owes.ensures.begun)),
    )
