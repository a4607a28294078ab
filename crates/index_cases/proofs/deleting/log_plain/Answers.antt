-- A record that leaves no page is logged.
use Rattle.std.proofs.Common.{◌∙◌, List, [], sym, ap, subst, refl}
use Rattle.core_state.specs.Allowed.{Sheet, Step, Owes}
use Rattle.buffer_frames.specs.Drawing.{HasEncoding}
use Rattle.buffer_frames.specs.Opens.{IsLoggedKind}
use Rattle.buffer_frames.specs.Passes.{IsHolding, xid_after, view_of}
use Rattle.buffer_frames.proofs.AtHand.{none_held}
use Rattle.index_cases.specs.Deleting.{IsXidThen}
use Rattle.index_cases.proofs.Deletions.{plain_encoded, plain_logged, plain_begins, plain_owes, plain_then}
use Rattle.index_cases.proofs.Rights.{right_stays}
use Rattle.index_cases.proofs.TurnSteps.{let_scan}
use Rattle.index_cases.proofs.deleting.log_plain.Goals as goal

pub log_step-requires-clause-holding : goal.log_step-requires-clause-holding
log_step-requires-clause-holding g c =
    subst (IsHolding g.D.Disk c.args.frames.now c.args.pass.now) (sym c.new.ensures.items)
    (none_held g.D.Disk c.args.frames.now c.args.pass.now c.requires.runs.is_pass c.requires.runs.none)

pub log_step-requires-clause-encoded : goal.log_step-requires-clause-encoded
log_step-requires-clause-encoded g c = subst HasEncoding (sym c.new-step.ensures)
    (plain_encoded c.args.kind c.args.xid c.args.pass.now.xid c.requires.plain)

pub log_step-requires-clause-kind : goal.log_step-requires-clause-kind
log_step-requires-clause-kind g c = subst (λ (s : Step). IsLoggedKind s.kind) (sym c.new-step.ensures)
    (plain_logged c.args.kind c.args.xid c.args.pass.now.xid c.requires.plain)

pub log_step-requires-clause-one : goal.log_step-requires-clause-one
log_step-requires-clause-one g c = λ e.
    plain_begins c.args.kind c.args.xid c.args.pass.now.xid c.requires.plain
    (sym (ap (λ (s : Step). s.kind) c.new-step.ensures) ∙ e)

pub log_step-requires-clause-may : goal.log_step-requires-clause-may
log_step-requires-clause-may g c = λ told. absurd (c.requires.silent told)

pub log_step-requires-clause-owes : goal.log_step-requires-clause-owes
log_step-requires-clause-owes g c = λ R s.
    let f = c.args.frames.now in
    let pass = c.args.pass.now in
    subst (λ (xs : List Sheet). Owes (view_of f pass R xs) c.new-step.result) (sym c.new.ensures.items)
    (subst (λ (t : Step). Owes (view_of f pass R []) t) (sym c.new-step.ensures)
    (plain_owes g.D.Disk f pass c.args.kind c.args.xid c.requires.runs.is_pass c.requires.plain R s))

pub returns-clause-runs : goal.returns-clause-runs
returns-clause-runs g c =
    let e = c.log_step.ensures in
    let was = c.requires.runs in
    record {
      is_pass = e.pass;
      right = right_stays c.args.pass.now c.log_step.new.pass was.right e.work e.rises.seen;
      none = sym e.none_held.all;
      pin = e.same.0 ∙ was.pin;
      xid_is = refl;
      room = e.same.1 ∙ was.room;
    }

pub returns-clause-xid : goal.returns-clause-xid
returns-clause-xid g c =
    let drawn = c.in_ok-log_step.field-0.value in
    subst (IsXidThen c.args.kind) (sym (c.in_ok-log_step.ensures.xid
    ∙ ap (λ (s : Step). xid_after s.kind drawn c.args.pass.now.xid) c.new-step.ensures))
    (plain_then c.args.kind c.args.xid drawn c.args.pass.now.xid c.requires.plain)

pub returns-clause-scans : goal.returns-clause-scans
returns-clause-scans g c =
    let e = c.log_step.ensures in
    let_scan g.D.Disk c.args.frames.now c.log_step.new.self _ c.scans_go_on.ensures c.in_ok-log_step.ensures.added
    e.pins e.runs_on.flushed
