-- A transaction begins, marks the document, and is committed and flushed.
use Rattle.std.proofs.Common.{◌∙◌, [], sym, refl}
use Rattle.index_cases.proofs.Rights.{right_stays}
use Rattle.index_cases.proofs.TurnSteps.{let_scan}
use Rattle.index_cases.proofs.deleting.delete.Goals as goal

pub log_plain-requires-clause-runs : goal.log_plain-requires-clause-runs
log_plain-requires-clause-runs g c =
    let may = c.requires.may in
    record {
      is_pass = may.is_pass;
      right = may.right;
      none = may.none;
      pin = may.idle.0;
      xid_is = refl;
      room = may.room;
    }

pub log_plain-requires-clause-plain : goal.log_plain-requires-clause-plain
log_plain-requires-clause-plain g c = (refl, c.requires.may.idle.1)

pub log_mark-requires-clause-runs : goal.log_mark-requires-clause-runs
log_mark-requires-clause-runs g c =
    let r = c.in_ok-log_plain.ensures.runs in
    record {
      is_pass = r.is_pass;
      right = r.right;
      none = r.none;
      pin = r.pin;
      xid_is = sym c.xid.ensures ∙ c.in-Some.is;
      room = r.room;
    }

pub log_plain-requires-2-clause-runs : goal.log_plain-requires-2-clause-runs
log_plain-requires-2-clause-runs g c =
    let r = c.in_ok-log_mark.ensures.runs in
    record { is_pass = r.is_pass; right = r.right; none = r.none; pin = r.pin; xid_is = refl; room = r.room }

pub log_plain-requires-2-clause-plain : goal.log_plain-requires-2-clause-plain
log_plain-requires-2-clause-plain g c = (refl, c.in_ok-log_mark.ensures.runs.xid_is)

pub returns-clause-may : goal.returns-clause-may
returns-clause-may g c =
    let r = c.in_ok-log_plain-2.ensures.runs in
    let e = c.flush_log.ensures in
    record {
      is_pass = e.pass;
      right = right_stays c.log_plain-2.new.pass c.flush_log.new.pass r.right e.keeps.work e.rises.seen;
      none = e.keeps.held ∙ r.none;
      idle = (e.keeps.pin ∙ r.pin, e.keeps.xid ∙ c.in_ok-log_plain-2.ensures.xid);
      room = e.keeps.room ∙ r.room;
    }

pub returns-clause-scans : goal.returns-clause-scans
returns-clause-scans g c = λ p s was.
    let e = c.flush_log.ensures in
    let_scan g.D.Disk c.log_plain-2.new.frames c.flush_log.new.self [] c.scans_go_on.ensures e.added e.pins
    e.runs_on.flushed p s (c.in_ok-log_plain-2.ensures.scans p s (c.in_ok-log_mark.ensures.scans p s
    (c.in_ok-log_plain.ensures.scans p s was)))
