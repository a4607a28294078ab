-- The page is held, and the record of its mark logged.
use Rattle.std.proofs.Common.{◌++◌, ◌∷◌, ◌∙◌, List, [], sym, ap, subst, arith}
use Rattle.core_state.specs.Allowed.{Sheet, Owes}
use Rattle.buffer_frames.specs.Passes.{IsHolding, view_of}
use Rattle.buffer_frames.proofs.AtHand.{none_held}
use Rattle.index_cases.proofs.Deletions.{mark_encoded, mark_kind, mark_begins, mark_owes, mark_xid}
use Rattle.index_cases.proofs.Rights.{right_stays}
use Rattle.index_cases.proofs.TurnSteps.{let_scan}
use Rattle.index_cases.proofs.deleting.log_mark.Goals as goal

pub log_step-requires-clause-holding : goal.log_step-requires-clause-holding
log_step-requires-clause-holding g c =
    let held = c.in_ok-held.held in
    subst (IsHolding g.D.Disk c.hold.new.self c.hold.new.pass)
    (sym (c.push_reserved.ensures.items
    ∙ ap (λ (xs : List Sheet). xs ++ held ∷ []) (c.reserve.ensures.items ∙ c.new-pages.ensures.items)))
    (c.in_ok-held.ensures.holding []
    (none_held g.D.Disk c.args.frames.now c.args.pass.now c.requires.runs.is_pass c.requires.runs.none))

pub log_step-requires-clause-encoded : goal.log_step-requires-clause-encoded
log_step-requires-clause-encoded g c =
    mark_encoded c.in_ok-held.held.page c.args.xid c.in-Ok.step c.in-Ok.ensures

pub log_step-requires-clause-kind : goal.log_step-requires-clause-kind
log_step-requires-clause-kind g c =
    mark_kind c.in_ok-held.held.page c.args.xid c.in-Ok.step c.in-Ok.ensures

pub log_step-requires-clause-one : goal.log_step-requires-clause-one
log_step-requires-clause-one g c = λ e.
    absurd (mark_begins c.in_ok-held.held.page c.args.xid c.in-Ok.step c.in-Ok.ensures e)

pub log_step-requires-clause-may : goal.log_step-requires-clause-may
log_step-requires-clause-may g c = λ told. absurd (c.requires.silent told)

pub log_step-requires-clause-owes : goal.log_step-requires-clause-owes
log_step-requires-clause-owes g c = λ R s.
    let held = c.in_ok-held.held in
    let h = c.hold.ensures in
    subst (λ (xs : List Sheet). Owes (view_of c.hold.new.self c.hold.new.pass R xs) c.in-Ok.step)
    (sym (c.push_reserved.ensures.items
    ∙ ap (λ (xs : List Sheet). xs ++ held ∷ []) (c.reserve.ensures.items ∙ c.new-pages.ensures.items)))
    (mark_owes g.D.Disk c.hold.new.self c.hold.new.pass held c.args.xid c.in-Ok.step h.pass
    (h.same.2 ∙ c.requires.runs.xid_is) c.in-Ok.ensures R s)

pub returns-in_ok-log_step-in-Ok-clause-runs : goal.returns-in_ok-log_step-in-Ok-clause-runs
returns-in_ok-log_step-in-Ok-clause-runs g c =
    let h = c.hold.ensures in
    let e = c.log_step.ensures in
    let was = c.requires.runs in
    record {
      is_pass = e.pass;
      right = right_stays c.args.pass.now c.log_step.new.pass was.right (e.work ∙ h.right.0)
          (omega (arith, h.rises.seen, e.rises.seen));
      none = sym e.none_held.all;
      pin = e.same.0 ∙ h.same.0 ∙ was.pin;
      xid_is = c.in_ok-log_step-in-Ok.ensures.xid
          ∙ mark_xid c.in_ok-held.held.page c.args.xid c.in_ok-log_step-in-Ok.field-0.value c.in-Ok.step
          c.hold.new.pass.xid c.in-Ok.ensures
          ∙ h.same.2 ∙ was.xid_is;
      room = e.same.1 ∙ h.same.1 ∙ was.room;
    }

pub returns-in_ok-log_step-in-Ok-clause-scans : goal.returns-in_ok-log_step-in-Ok-clause-scans
returns-in_ok-log_step-in-Ok-clause-scans g c = λ p s was.
    let h = c.hold.ensures in
    let e = c.log_step.ensures in
    let_scan g.D.Disk c.hold.new.self c.log_step.new.self _ c.scans_go_on.ensures
    c.in_ok-log_step-in-Ok.ensures.added e.pins e.runs_on.flushed p s
    (let_scan g.D.Disk c.args.frames.now c.hold.new.self [] c.scans_go_on.ensures h.added h.pins h.runs_on.flushed p s
    was)
