use Rattle.std.proofs.Common.{◌≡◌, arith, ap, subst}
use Rattle.std.specs.Prelude.{OnOk, OnErr}
use Rattle.buffer_frames.specs.Journals.{JournalValue, next_record}
use Rattle.page_types.specs.declared.record.Record.{Record}
use Rattle.buffer_frames.specs.Drawing.{made_sheets}
use Rattle.buffer_frames.specs.Logging.{HasLogged, IsSameJournal}
use Rattle.buffer_frames.proofs.Logged.{log_stands, log_refused, log_moments, mid_record, mid_drawn, mid_state, mid_can}
use Rattle.buffer_frames.proofs.Logged.{mid_full, mid_work}
use Rattle.buffer_frames.proofs.journal.Journal.log_step.Goals as goal

pub returns-clause-stands : goal.returns-clause-stands
returns-clause-stands g c =
    log_stands g.D.Disk c.args.self.now c.flush_much.new.self c.log_now.new.self c.args.step.now c.log_now.result
    c.log_now.ensures.ok c.log_now.ensures.can_draw c.flush_much.ensures.same.1 c.flush_much.ensures.same.0
    (omega (arith, c.self.invariant.1, ap (λ (k : JournalValue g.row.D.Denot). k.state.records) c.self.view_is))
    c.flush_much.ensures.stands

pub returns-clause-refused : goal.returns-clause-refused
returns-clause-refused g c = log_refused g.D.Disk c.args.self.now c.flush_much.new.self c.log_now.new.self
    c.log_now.result c.log_now.ensures.refused c.flush_much.ensures.stands

pub returns-clause-any_moment : goal.returns-clause-any_moment
returns-clause-any_moment g c t R s =
    log_moments g.D.Disk c.args.self.now c.flush_much.new.self c.log_now.new.self
    (next_record c.flush_much.new.self c.args.step.now) c.log_now.result c.log_now.ensures.ok
    c.log_now.ensures.refused R s (c.flush_much.ensures.any_moment t R s)

pub returns-clause-now : goal.returns-clause-now
returns-clause-now g c few =
    let same = (c.flush_much.ensures.idle few).1 in
    subst (λ (j : JournalValue g.row.D.Denot). OnOk c.log_now.result (HasLogged j c.log_now.new.self
    (next_record j c.args.step.now)) × OnErr c.log_now.result (IsSameJournal j c.log_now.new.self)) same
    (c.log_now.ensures.ok, c.log_now.ensures.refused)

pub returns-clause-work : goal.returns-clause-work
returns-clause-work g c = mid_work c.args.self.now c.flush_much.new.self c.log_now.new.self c.args.step.now
    c.log_now.result c.flush_much.ensures.same.1 c.flush_much.ensures.same.0 c.flush_much.ensures.work
    c.log_now.ensures.ok

pub returns-clause-drawn : goal.returns-clause-drawn
returns-clause-drawn g c = mid_drawn c.args.self.now c.flush_much.new.self c.args.step.now.kind c.log_now.result
    c.flush_much.ensures.same.1 c.flush_much.ensures.same.0 c.log_now.ensures.drawn

pub returns-clause-state : goal.returns-clause-state
returns-clause-state g c = mid_state c.args.self.now c.flush_much.new.self c.log_now.new.self c.args.step.now
    c.log_now.result c.flush_much.ensures.same.1 c.flush_much.ensures.same.0 c.log_now.ensures.ok

pub returns-clause-made : goal.returns-clause-made
returns-clause-made g c =
    subst (λ (r : Record). OnOk c.log_now.result (c.log_now.new.step ≡ record (c.args.step.now) {
      after = made_sheets r c.args.step.now.after;
    })) (mid_record c.args.self.now c.flush_much.new.self c.args.step.now c.flush_much.ensures.same.1
    c.flush_much.ensures.same.0) c.log_now.ensures.made

pub returns-clause-can_draw : goal.returns-clause-can_draw
returns-clause-can_draw g c = mid_can c.args.self.now c.flush_much.new.self c.args.step.now c.log_now.result
    c.flush_much.ensures.same.1 c.flush_much.ensures.same.0 c.log_now.ensures.can_draw

pub returns-clause-full : goal.returns-clause-full
returns-clause-full g c =
    mid_full c.args.self.now c.flush_much.new.self c.args.step.now c.log_now.result c.flush_much.ensures.same.2
    c.in_ok-flush_much.ensures.end c.in_ok-flush_much.ensures.waits c.flush_much.ensures.same.1
    c.flush_much.ensures.same.0 c.log_now.ensures.full
