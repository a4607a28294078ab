use Rattle.buffer_frames.proofs.Flushing.{done_stands, done_not_down, moments_either, undone_stands}
use Rattle.buffer_frames.proofs.Flushing.{undone_idle, undone_down}
use Rattle.buffer_frames.proofs.journal.Journal.flush.Goals as goal

pub returns-in-Ok-clause-stands : goal.returns-in-Ok-clause-stands
returns-in-Ok-clause-stands g c =
    done_stands g.D.Disk c.args.self.now c.self.inside.disk c.flush.new.disk c.self.inside.wal c.flush.new.self
    c.self.inside.state.value c.self.inside.flushed c.commits-self-inside.result c.self.inside.owes
    c.self.inside.opened.value c.self.inside.work c.flush.result tt c.self.view_is
    c.in-Ok.is c.flush.ensures.is_down c.commits-self-inside.ensures c.in-Ok.ensures.ok.0 c.in-Ok.ensures.counts

pub returns-in-Ok-clause-any_moment : goal.returns-in-Ok-clause-any_moment
returns-in-Ok-clause-any_moment g c t =
    moments_either g.D.Disk c.args.self.now c.self.inside.disk c.flush.new.disk c.self.inside.wal
    c.self.inside.state.value c.self.inside.flushed c.self.inside.owes c.self.inside.opened.value c.self.inside.work
    c.self.view_is t
    (λ f is. (c.flush.ensures.stays_down f is).0) (c.flush.ensures.any_moment t)

pub returns-in-Ok-clause-is_down : goal.returns-in-Ok-clause-is_down
returns-in-Ok-clause-is_down g c f = (
  λ no. absurd (let x : ⊥ = cc in x),
  λ is. absurd (done_not_down g.D.Disk c.args.self.now c.args.self.now c.self.inside.disk c.self.inside.wal
      c.self.inside.state.value c.self.inside.flushed c.self.inside.owes c.self.inside.opened.value c.self.inside.work
      c.flush.result
      tt c.self.view_is c.in-Ok.is c.flush.ensures.is_down f is),
)

pub returns-in-Ok-clause-stays_down : goal.returns-in-Ok-clause-stays_down
returns-in-Ok-clause-stays_down g c f is =
    absurd (done_not_down g.D.Disk c.args.self.now c.args.self.now c.self.inside.disk c.self.inside.wal
    c.self.inside.state.value c.self.inside.flushed c.self.inside.owes c.self.inside.opened.value c.self.inside.work
    c.flush.result tt
    c.self.view_is c.in-Ok.is c.flush.ensures.is_down f is)

pub returns-in-Err-clause-stands : goal.returns-in-Err-clause-stands
returns-in-Err-clause-stands g c =
    undone_stands g.D.Disk c.args.self.now c.self.inside.disk c.flush.new.disk c.self.inside.wal c.flush.new.self
    c.self.inside.state.value c.self.inside.flushed (g.D.Disk.fault_count c.flush.new.disk) c.self.inside.owes
    c.self.inside.opened.value c.self.inside.work c.flush.result c.in-Err.error c.self.view_is
    c.in-Err.is c.in-Err.ensures.error c.flush.ensures.is_down c.flush.ensures.goes_down c.flush.ensures.stays_down

pub returns-in-Err-clause-idle : goal.returns-in-Err-clause-idle
returns-in-Err-clause-idle g c =
    undone_idle g.D.Disk c.args.self.now c.self.inside.disk c.flush.new.disk c.self.inside.wal c.flush.new.self
    c.self.inside.state.value c.self.inside.flushed (g.D.Disk.fault_count c.flush.new.disk) c.self.inside.owes
    c.self.inside.opened.value c.self.inside.work c.flush.result c.in-Err.error c.from.result c.self.view_is
    c.in-Err.is c.from.ensures (λ none. let rest = c.flush.ensures.idle none in (rest.0, rest.1))
    c.flush.ensures.is_down c.flush.ensures.goes_down

pub returns-in-Err-clause-any_moment : goal.returns-in-Err-clause-any_moment
returns-in-Err-clause-any_moment g c t =
    moments_either g.D.Disk c.args.self.now c.self.inside.disk c.flush.new.disk c.self.inside.wal
    c.self.inside.state.value c.self.inside.flushed c.self.inside.owes c.self.inside.opened.value c.self.inside.work
    c.self.view_is t
    (λ f is. (c.flush.ensures.stays_down f is).0) (c.flush.ensures.any_moment t)

pub returns-in-Err-clause-is_down : goal.returns-in-Err-clause-is_down
returns-in-Err-clause-is_down g c =
    undone_down g.D.Disk c.args.self.now c.self.inside.disk c.self.inside.wal c.self.inside.state.value
    c.self.inside.flushed c.self.inside.owes c.self.inside.opened.value c.self.inside.work c.flush.result c.in-Err.error
    c.from.result
    c.self.view_is c.in-Err.is c.from.ensures c.flush.ensures.is_down
