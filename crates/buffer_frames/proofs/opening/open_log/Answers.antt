use Rattle.std.proofs.Common.{inr}
use Rattle.buffer_frames.proofs.OpeningRuns.{made_run}
use Rattle.buffer_frames.proofs.opening.open_log.Goals as goal

pub returns-in_err-wal-clause-runs : goal.returns-in_err-wal-clause-runs
returns-in_err-wal-clause-runs g c t =
    inr (
      g.D.Disk.clock c.sync_both.new.disk,
      made_run g.D.Disk c.args.disk.now c.sync_both.new.disk c.open_or_create.new.disk t c.sync_both.ensures.keeps
          (c.in_ok-sync_both.ensures.durable_pages t) (c.open_or_create.ensures.any_moment t),
    )

pub returns-clause-runs : goal.returns-clause-runs
returns-clause-runs g c t =
    inr (
      g.D.Disk.clock c.sync_both.new.disk,
      made_run g.D.Disk c.args.disk.now c.sync_both.new.disk c.open_or_create.new.disk t c.sync_both.ensures.keeps
          (c.in_ok-sync_both.ensures.durable_pages t) (c.open_or_create.ensures.any_moment t),
    )

pub returns-clause-ran : goal.returns-clause-ran
returns-clause-ran g c = (
  g.D.Disk.clock c.sync_both.new.disk,
  λ t. made_run g.D.Disk c.args.disk.now c.sync_both.new.disk c.open_or_create.new.disk t c.sync_both.ensures.keeps
      (c.in_ok-sync_both.ensures.durable_pages t) (c.open_or_create.ensures.any_moment t),
)
