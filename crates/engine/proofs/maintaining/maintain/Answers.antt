-- The right of maintenance is claimed for work on the index, and given back.
use Rattle.std.proofs.Common.{◌≡◌, ℕ, [], ◌++◌, sym, ap, subst, ◌∙◌, arith, append-nil}
use Rattle.std.specs.Prelude.{Some, None}
use Rattle.wal.specs.Waiting.{down_of}
use Rattle.buffer_frames.specs.Frames.{FramesValue}
use Rattle.buffer_frames.specs.declared.pass.Pass.{Pass}
use Rattle.gin_place.proofs.Faults.{fine_then, told_then}
use Rattle.engine.specs.Inner.Cleaned.{AreGoneSince}
use Rattle.engine.specs.Inner.Vacuumed.{AreKindsOf}
use Rattle.engine.proofs.Cleanups.{right_through, goes_right, through_in_turn}
use Rattle.engine.proofs.AtWork.{at_right}
use Rattle.engine.proofs.Maintained.{quiet_right, vacuumed_around, ends_around}
use Rattle.engine.proofs.Sweeping.{behind_then, never_before, right_fine, fine_right}
use Rattle.engine.proofs.Sweeping.{told_right, on_ok}
use Rattle.engine.proofs.ReadSteps.{if_err}
use Rattle.engine.proofs.maintaining.maintain.Goals as goal

pub work_on-worked-requires : goal.work_on-worked-requires
work_on-worked-requires g c =
    let e = c.claim_work.ensures in
    let records : ℕ = c.args.frames.now.journal.state.records in
    record {
      up = ap (λ (x : FramesValue g.row.D.Denot). down_of x.journal.wal) e.claimed.frames ∙ c.requires.up;
      pass = e.pass;
      right = record {
        at = records;
        has = ap (λ (x : Pass). x.work) e.claimed.pass;
        within = omega (arith, c.requires.all, ap (λ (x : Pass). x.seen) e.claimed.pass);
      };
      all = ap (λ (x : Pass). x.seen) e.claimed.pass ∙ c.requires.all
          ∙ sym (ap (λ (x : FramesValue g.row.D.Denot). x.journal.state.records) e.claimed.frames);
      none = ap (λ (x : Pass). x.held) e.claimed.pass ∙ c.requires.none;
    }

pub give_back_work-requires : goal.give_back_work-requires
give_back_work-requires g c =
    let e = c.claim_work.ensures in
    let l = c.work_on-worked.ensures in
    record {
      pass = l.through.2.is_pass;
      right = λ none.
          let z : None ≡ Some c.args.frames.now.journal.state.records =
          sym none ∙ l.work ∙ ap (λ (x : Pass). x.work) e.claimed.pass in
          (let y : ⊥ = cc in y);
    }

pub returns-clause-through : goal.returns-clause-through
returns-clause-through g c =
    let e = c.claim_work.ensures in
    let l = c.work_on-worked.ensures in
    let b = c.give_back_work.ensures in
    let f = c.args.frames.now in
    let f1 = c.claim_work.new.self in
    let f2 = c.work_on-worked.new.frames in
    let f3 = c.give_back_work.new.self in
    let p = c.args.pass.now in
    let p1 = c.claim_work.new.pass in
    let p2 = c.work_on-worked.new.pass in
    let p3 = c.give_back_work.new.pass in
    let ks = l.through.0 in (
      [] ++ (ks ++ []),
      subst (AreKindsOf c.args.vacuums) (sym (append-nil ks)) l.through.1,
      through_in_turn g.D.Disk f f1 f3 p p1 p3 [] (ks ++ [])
          (right_through g.D.Disk f f1 p p1 _ _ e.pass e.claimed.frames e.claimed.pass e.added e.runs_on e.begins)
          (through_in_turn g.D.Disk f1 f2 f3 p1 p2 p3 ks [] l.through.2
          (right_through g.D.Disk f2 f3 p2 p3 _ _ b.pass b.frames b.given b.added b.runs_on b.begins)),
    )

pub returns-clause-nobody : goal.returns-clause-nobody
returns-clause-nobody g c =
    ap (λ (x : FramesValue g.row.D.Denot). x.journal.work) c.give_back_work.ensures.frames

pub returns-clause-none_held : goal.returns-clause-none_held
returns-clause-none_held g c =
    ap (λ (x : Pass). x.held) c.give_back_work.ensures.given ∙ c.work_on-worked.ensures.none_held

pub returns-clause-gone : goal.returns-clause-gone
returns-clause-gone g c =
    let f2 = c.work_on-worked.new.frames in
    let f3 = c.give_back_work.new.self in
    on_ok c.work_on-worked.result
    (λ gone. behind_then g.D.Disk f2 f3 _ c.give_back_work.ensures.added
    (subst (λ (n : ℕ). AreGoneSince g.D.Disk n f2) (ap (λ (x : Pass). x.seen) c.claim_work.ensures.claimed.pass) gone))
    c.work_on-worked.ensures.gone

pub returns-clause-fine : goal.returns-clause-fine
returns-clause-fine g c =
    let f = c.args.frames.now in
    let f1 = c.claim_work.new.self in
    let f2 = c.work_on-worked.new.frames in
    let f3 = c.give_back_work.new.self in
    on_ok c.work_on-worked.result
    (λ met. fine_right g.D.Disk f f2 f3 _ c.give_back_work.ensures.frames
    (fine_then g.D.Disk f f1 f2 (right_fine g.D.Disk f f1 _ c.claim_work.ensures.claimed.frames) met))
    c.work_on-worked.ensures.fine

pub returns-clause-fault : goal.returns-clause-fault
returns-clause-fault g c =
    let f = c.args.frames.now in
    let f1 = c.claim_work.new.self in
    let f2 = c.work_on-worked.new.frames in
    let f3 = c.give_back_work.new.self in
    if_err c.work_on-worked.result
    (λ e told. told_right g.D.Disk f f2 f3 _ e c.give_back_work.ensures.frames
    (told_then g.D.Disk f f1 f2 e (right_fine g.D.Disk f f1 _ c.claim_work.ensures.claimed.frames) told))
    c.work_on-worked.ensures.fault

pub returns-clause-vacuumed : goal.returns-clause-vacuumed
returns-clause-vacuumed g c = λ is.
    let f = c.args.frames.now in
    let f1 = c.claim_work.new.self in
    on_ok c.work_on-worked.result
    (vacuumed_around g.D.Disk f f1 c.work_on-worked.new.frames c.give_back_work.new.self
    (quiet_right f f1 _ c.claim_work.ensures.claimed.frames) c.give_back_work.ensures.added)
    (c.work_on-worked.ensures.vacuumed is)

pub returns-clause-cause : goal.returns-clause-cause
returns-clause-cause g c =
    let f = c.args.frames.now in
    let f1 = c.claim_work.new.self in
    if_err c.work_on-worked.result
    (ends_around g.D.Disk f f1 c.work_on-worked.new.frames c.give_back_work.new.self c.args.vacuums
    (at_right f f1 _ c.claim_work.ensures.claimed.frames) c.claim_work.ensures.added
    (quiet_right f f1 _ c.claim_work.ensures.claimed.frames) c.give_back_work.ensures.added)
    c.work_on-worked.ensures.cause

pub returns-clause-lawful : goal.returns-clause-lawful
returns-clause-lawful g c =
    let f = c.args.frames.now in
    let f1 = c.claim_work.new.self in
    let e = c.claim_work.ensures in
    if_err c.work_on-worked.result
    (λ x. never_before g.D.Disk f f1 [] x
    (goes_right g.D.Disk f f1 c.args.pass.now c.claim_work.new.pass _ _ e.pass e.claimed.frames e.claimed.pass e.added
    e.runs_on e.begins) (right_fine g.D.Disk f f1 _ e.claimed.frames))
    c.work_on-worked.ensures.lawful
