-- Work on the index in a snapshot of its own.
use Rattle.std.proofs.Common.{◌≡◌, List, [], ◌++◌, refl, sym, ap, subst, ◌∙◌, arith, append-nil, Bool}
use Rattle.std.specs.Prelude.{IfErr, Result, Ok, Err, ⊤, Option, None, slice_set}
use Rattle.std.proofs.lemmas.Result.{err_from_is_err_and}
use Rattle.wal.specs.Waiting.{down_of}
use Rattle.buffer_frames.specs.Frames.{FramesValue}
use Rattle.buffer_frames.specs.Journals.{JournalValue}
use Rattle.snap_pins.specs.Taken.{IsPinned}
use Rattle.snap_pins.specs.declared.Pin.{Pin}
use Rattle.buffer_frames.specs.Passes.{IsPassOf, IsRightFree, HasPinned}
use Rattle.gin_place.specs.declared.error.PlaceError.{PlaceError}
use Rattle.gin_place.specs.Faults.{MetNoFault}
use Rattle.engine.specs.Answers.{MeetsNoBadPage}
use Rattle.engine.specs.Causes.{IsDown}
use Rattle.engine.specs.Db.{DbValue, state_of, IsUp}
use Rattle.engine.specs.Going.{Goes, FaultIsTold}
use Rattle.engine.specs.Inner.Refusals.{frame_refusal, place_refusal}
use Rattle.engine.specs.declared.error.DbError.{DbError}
use Rattle.engine.specs.Inner.Cleaned.{IndexGoesOn}
use Rattle.engine.specs.Inner.Vacuumed.{AreKindsOf, HasMaintained}
use Rattle.engine.proofs.Cleanups.{up_by_none, up_as, up_of_frames, added_by_none, goes_by_none}
use Rattle.engine.proofs.AtWork.{at_goes}
use Rattle.engine.proofs.Maintained.{quiet_pin, pins_around, given_up, vacuumed_around, ends_around, no_kinds, down_as}
use Rattle.engine.proofs.Maintained.{refused_as, done_as}
use Rattle.engine.proofs.Starting.{up_at_pin}
use Rattle.engine.proofs.Paths.{one_nothing, pin_step, unpin_step, time_of, kept_fault, told_in_turn, told_still}
use Rattle.engine.proofs.PinsRisen.{own_stays}
use Rattle.engine.proofs.Searching.{session_after, snapshot_after, rests}
use Rattle.engine.proofs.Sweeping.{sweep_path, sweep_gone, never_before, store_never, place_none, place_told}
use Rattle.engine.proofs.Sweeping.{moved_by_end}
use Rattle.engine.proofs.db.Db.maintained.Goals as goal

pub returns-in_err-pin-clause-session : goal.returns-in_err-pin-clause-session
returns-in_err-pin-clause-session g c =
    let b : DbValue g.row.D.Denot = record { frames = c.pin.new.self; pending = c.self.inside.pending } in
    let p = c.in_err-pin.ensures.refused in
    let d = c.in_err-pin.ensures.error in
    let down : IsDown c.args.self.now d.0 =
    subst (λ (s : DbValue g.row.D.Denot). IsDown s d.0) c.self.view_is
    ((c.pin.ensures.is_down d.0).0 (c.in_err-pin.was ∙ ap Err d.1)) in
    let same : b ≡ c.args.self.now =
    ap (λ (f : FramesValue g.row.D.Denot). let s : DbValue g.row.D.Denot = record {
      frames = f;
      pending = c.self.inside.pending;
    } in s) p.0
    ∙ c.self.view_is in
    let k =
    rests g.D.Disk c.args.self.now b c.args.pass.now c.pin.new.pass d.0 c.requires.session.rests down same p.1 in
    own_stays g.D.Disk k.path c.args.pass.now c.pin.new.pass c.requires.session k.session

pub returns-in_err-pin-clause-path : goal.returns-in_err-pin-clause-path
returns-in_err-pin-clause-path g c =
    let b : DbValue g.row.D.Denot = record { frames = c.pin.new.self; pending = c.self.inside.pending } in
    let p = c.in_err-pin.ensures.refused in
    let d = c.in_err-pin.ensures.error in
    let down : IsDown c.args.self.now d.0 =
    subst (λ (s : DbValue g.row.D.Denot). IsDown s d.0) c.self.view_is
    ((c.pin.ensures.is_down d.0).0 (c.in_err-pin.was ∙ ap Err d.1)) in
    let same : b ≡ c.args.self.now =
    ap (λ (f : FramesValue g.row.D.Denot). let s : DbValue g.row.D.Denot = record {
      frames = f;
      pending = c.self.inside.pending;
    } in s) p.0
    ∙ c.self.view_is in
    let k =
    rests g.D.Disk c.args.self.now b c.args.pass.now c.pin.new.pass d.0 c.requires.session.rests down same p.1 in
    ([], no_kinds c.args.vacuums, up_by_none g.D.Disk c.args.self.now b k.path)

pub returns-in_err-pin-clause-answered : goal.returns-in_err-pin-clause-answered
returns-in_err-pin-clause-answered g c =
    let b : DbValue g.row.D.Denot = record { frames = c.pin.new.self; pending = c.self.inside.pending } in
    let p = c.in_err-pin.ensures.refused in
    let d = c.in_err-pin.ensures.error in
    let down : IsDown c.args.self.now d.0 =
    subst (λ (s : DbValue g.row.D.Denot). IsDown s d.0) c.self.view_is
    ((c.pin.ensures.is_down d.0).0 (c.in_err-pin.was ∙ ap Err d.1)) in
    let same : b ≡ c.args.self.now =
    ap (λ (f : FramesValue g.row.D.Denot). let s : DbValue g.row.D.Denot = record {
      frames = f;
      pending = c.self.inside.pending;
    } in s) p.0
    ∙ c.self.view_is in
    let k =
    rests g.D.Disk c.args.self.now b c.args.pass.now c.pin.new.pass d.0 c.requires.session.rests down same p.1 in
    let q = err_from_is_err_and c.from_residual.result c.from_residual.ensures.1 in
    subst (λ (r : Result ⊤ DbError). HasMaintained g.D.Disk c.args.vacuums c.args.self.now b r)
    (sym (q.1 ∙ ap Err (q.2 ∙ ap frame_refusal d.1)))
    (down_as g.D.Disk ⊤ c.args.vacuums c.args.self.now b d.0 down same)

pub returns-in_err-pin-clause-pinned : goal.returns-in_err-pin-clause-pinned
returns-in_err-pin-clause-pinned g c = λ place p is.
    let b : DbValue g.row.D.Denot = record { frames = c.pin.new.self; pending = c.self.inside.pending } in
    let same : b ≡ c.args.self.now =
    ap (λ (f : FramesValue g.row.D.Denot). let s : DbValue g.row.D.Denot = record {
      frames = f;
      pending = c.self.inside.pending;
    } in s) c.in_err-pin.ensures.refused.0
    ∙ c.self.view_is in
    subst (λ (s : DbValue g.row.D.Denot). IsPinned s.frames.pins place p) (sym same) is

pub returns-in_err-pin-clause-snapshot : goal.returns-in_err-pin-clause-snapshot
returns-in_err-pin-clause-snapshot g c =
    let b : DbValue g.row.D.Denot = record { frames = c.pin.new.self; pending = c.self.inside.pending } in
    let p = c.in_err-pin.ensures.refused in
    let d = c.in_err-pin.ensures.error in
    let down : IsDown c.args.self.now d.0 =
    subst (λ (s : DbValue g.row.D.Denot). IsDown s d.0) c.self.view_is
    ((c.pin.ensures.is_down d.0).0 (c.in_err-pin.was ∙ ap Err d.1)) in
    let same : b ≡ c.args.self.now =
    ap (λ (f : FramesValue g.row.D.Denot). let s : DbValue g.row.D.Denot = record {
      frames = f;
      pending = c.self.inside.pending;
    } in s) p.0
    ∙ c.self.view_is in
    let k =
    rests g.D.Disk c.args.self.now b c.args.pass.now c.pin.new.pass d.0 c.requires.session.rests down same p.1 in
    k.snapshot

pub returns-in_err-pin-clause-fault : goal.returns-in_err-pin-clause-fault
returns-in_err-pin-clause-fault g c =
    let b : DbValue g.row.D.Denot = record { frames = c.pin.new.self; pending = c.self.inside.pending } in
    let p = c.in_err-pin.ensures.refused in
    let d = c.in_err-pin.ensures.error in
    let down : IsDown c.args.self.now d.0 =
    subst (λ (s : DbValue g.row.D.Denot). IsDown s d.0) c.self.view_is
    ((c.pin.ensures.is_down d.0).0 (c.in_err-pin.was ∙ ap Err d.1)) in
    let same : b ≡ c.args.self.now =
    ap (λ (f : FramesValue g.row.D.Denot). let s : DbValue g.row.D.Denot = record {
      frames = f;
      pending = c.self.inside.pending;
    } in s) p.0
    ∙ c.self.view_is in
    let k =
    rests g.D.Disk c.args.self.now b c.args.pass.now c.pin.new.pass d.0 c.requires.session.rests down same p.1 in
    let q = err_from_is_err_and c.from_residual.result c.from_residual.ensures.1 in
    subst (λ (r : Result ⊤ DbError). FaultIsTold g.D.Disk c.args.self.now b r)
    (sym (q.1 ∙ ap Err (q.2 ∙ ap frame_refusal d.1))) k.none

pub maintain-worked-requires : goal.maintain-worked-requires
maintain-worked-requires g c =
    let e = c.pin.ensures.keeps in
    let up = up_at_pin (down_of c.self.inside.frames.journal.wal) c.pin.result c.in_ok-pin.field-0 c.pin.ensures.is_down
    c.in_ok-pin.was in
    record {
      up = ap (λ (j : JournalValue g.row.D.Denot). down_of j.wal) e.journal ∙ up;
      pass = c.pin.ensures.pass;
      all = c.in_ok-pin.ensures.pinned.seen;
      none = e.same.0 ∙ c.requires.session.rests.idle.1;
      nobody = e.right.1 ∙ subst (λ (s : DbValue g.row.D.Denot). IsRightFree s.frames) (sym c.self.view_is)
          c.requires.session.free;
    }

pub returns-in_err-worked-clause-session : goal.returns-in_err-worked-clause-session
returns-in_err-worked-clause-session g c =
    let a : DbValue g.row.D.Denot = record { frames = c.self.inside.frames; pending = c.self.inside.pending } in
    let m : DbValue g.row.D.Denot = record { frames = c.pin.new.self; pending = c.self.inside.pending } in
    let s : DbValue g.row.D.Denot = record { frames = c.maintain-worked.new.frames; pending = c.self.inside.pending } in
    let b : DbValue g.row.D.Denot = record { frames = c.unpin.new.self; pending = c.self.inside.pending } in
    let e = c.pin.ensures.keeps in
    let l = c.maintain-worked.ensures in
    let u = c.unpin.ensures in
    let pinned = c.in_ok-pin.ensures.pinned in
    let old_pinned : HasPinned c.args.self.now.frames m.frames c.pin.new.pass c.in_ok-pin.field-0 =
    subst (λ (x : DbValue g.row.D.Denot). HasPinned x.frames m.frames c.pin.new.pass c.in_ok-pin.field-0) c.self.view_is
    pinned in
    let same : m.frames.journal ≡ c.args.self.now.frames.journal =
    e.journal ∙ ap (λ (x : DbValue g.row.D.Denot). x.frames.journal) c.self.view_is in
    record {
      rests = session_after c.args.self.now b c.args.pass.now c.pin.new.pass c.maintain-worked.new.pass c.unpin.new.pass
          c.requires.session.rests e.same.2 l.through.2.xid l.none_held u.keeps.same.0 u.keeps.same.2 u.none u.pass;
      free = ap (λ (j : JournalValue g.row.D.Denot). j.work) u.keeps.journal ∙ l.nobody;
    }

pub returns-in_err-worked-clause-path : goal.returns-in_err-worked-clause-path
returns-in_err-worked-clause-path g c =
    let a : DbValue g.row.D.Denot = record { frames = c.self.inside.frames; pending = c.self.inside.pending } in
    let m : DbValue g.row.D.Denot = record { frames = c.pin.new.self; pending = c.self.inside.pending } in
    let s : DbValue g.row.D.Denot = record { frames = c.maintain-worked.new.frames; pending = c.self.inside.pending } in
    let b : DbValue g.row.D.Denot = record { frames = c.unpin.new.self; pending = c.self.inside.pending } in
    let e = c.pin.ensures.keeps in
    let l = c.maintain-worked.ensures in
    let u = c.unpin.ensures in
    let pinned = c.in_ok-pin.ensures.pinned in
    let old_pinned : HasPinned c.args.self.now.frames m.frames c.pin.new.pass c.in_ok-pin.field-0 =
    subst (λ (x : DbValue g.row.D.Denot). HasPinned x.frames m.frames c.pin.new.pass c.in_ok-pin.field-0) c.self.view_is
    pinned in
    let same : m.frames.journal ≡ c.args.self.now.frames.journal =
    e.journal ∙ ap (λ (x : DbValue g.row.D.Denot). x.frames.journal) c.self.view_is in
    let begins : Goes g.D.Disk c.args.self.now m [] =
    subst (λ (x : DbValue g.row.D.Denot). Goes g.D.Disk x m []) c.self.view_is
    (one_nothing g.D.Disk (pin_step g.D.Disk a m refl e.added e.journal e.begins pinned)) in
    let ends : Goes g.D.Disk s b [] = one_nothing g.D.Disk
    (unpin_step g.D.Disk s b refl c.maintain-worked.new.pass.pin u.keeps.added u.keeps.journal u.keeps.begins u.pins) in
    let clean = up_of_frames g.D.Disk m s c.pin.new.pass c.maintain-worked.new.pass l.through.0 refl l.through.2 in (
      l.through.0 ++ [],
      subst (AreKindsOf c.args.vacuums) (sym (append-nil l.through.0)) l.through.1,
      sweep_path
          g.D.Disk c.args.self.now m s b l.through.0 begins ends clean,
    )

pub returns-in_err-worked-clause-snapshot : goal.returns-in_err-worked-clause-snapshot
returns-in_err-worked-clause-snapshot g c =
    let a : DbValue g.row.D.Denot = record { frames = c.self.inside.frames; pending = c.self.inside.pending } in
    let m : DbValue g.row.D.Denot = record { frames = c.pin.new.self; pending = c.self.inside.pending } in
    let s : DbValue g.row.D.Denot = record { frames = c.maintain-worked.new.frames; pending = c.self.inside.pending } in
    let b : DbValue g.row.D.Denot = record { frames = c.unpin.new.self; pending = c.self.inside.pending } in
    let e = c.pin.ensures.keeps in
    let l = c.maintain-worked.ensures in
    let u = c.unpin.ensures in
    let pinned = c.in_ok-pin.ensures.pinned in
    let old_pinned : HasPinned c.args.self.now.frames m.frames c.pin.new.pass c.in_ok-pin.field-0 =
    subst (λ (x : DbValue g.row.D.Denot). HasPinned x.frames m.frames c.pin.new.pass c.in_ok-pin.field-0) c.self.view_is
    pinned in
    let same : m.frames.journal ≡ c.args.self.now.frames.journal =
    e.journal ∙ ap (λ (x : DbValue g.row.D.Denot). x.frames.journal) c.self.view_is in
    snapshot_after c.args.self.now m b c.self.inside.frames c.args.pass.now c.pin.new.pass c.maintain-worked.new.pass
    c.unpin.new.pass _ c.requires.session.rests same pinned e.rises e.same.1 l.through.2.room
    (let le = l.through.2.rises.shown in le) u.keeps.rises u.keeps.same.1 u.pass

pub returns-clause-session : goal.returns-clause-session
returns-clause-session g c =
    let a : DbValue g.row.D.Denot = record { frames = c.self.inside.frames; pending = c.self.inside.pending } in
    let m : DbValue g.row.D.Denot = record { frames = c.pin.new.self; pending = c.self.inside.pending } in
    let s : DbValue g.row.D.Denot = record { frames = c.maintain-worked.new.frames; pending = c.self.inside.pending } in
    let b : DbValue g.row.D.Denot = record { frames = c.unpin.new.self; pending = c.self.inside.pending } in
    let e = c.pin.ensures.keeps in
    let l = c.maintain-worked.ensures in
    let u = c.unpin.ensures in
    let pinned = c.in_ok-pin.ensures.pinned in
    let old_pinned : HasPinned c.args.self.now.frames m.frames c.pin.new.pass c.in_ok-pin.field-0 =
    subst (λ (x : DbValue g.row.D.Denot). HasPinned x.frames m.frames c.pin.new.pass c.in_ok-pin.field-0) c.self.view_is
    pinned in
    let same : m.frames.journal ≡ c.args.self.now.frames.journal =
    e.journal ∙ ap (λ (x : DbValue g.row.D.Denot). x.frames.journal) c.self.view_is in
    record {
      rests = session_after c.args.self.now b c.args.pass.now c.pin.new.pass c.maintain-worked.new.pass c.unpin.new.pass
          c.requires.session.rests e.same.2 l.through.2.xid l.none_held u.keeps.same.0 u.keeps.same.2 u.none u.pass;
      free = ap (λ (j : JournalValue g.row.D.Denot). j.work) u.keeps.journal ∙ l.nobody;
    }

pub returns-clause-path : goal.returns-clause-path
returns-clause-path g c =
    let a : DbValue g.row.D.Denot = record { frames = c.self.inside.frames; pending = c.self.inside.pending } in
    let m : DbValue g.row.D.Denot = record { frames = c.pin.new.self; pending = c.self.inside.pending } in
    let s : DbValue g.row.D.Denot = record { frames = c.maintain-worked.new.frames; pending = c.self.inside.pending } in
    let b : DbValue g.row.D.Denot = record { frames = c.unpin.new.self; pending = c.self.inside.pending } in
    let e = c.pin.ensures.keeps in
    let l = c.maintain-worked.ensures in
    let u = c.unpin.ensures in
    let pinned = c.in_ok-pin.ensures.pinned in
    let old_pinned : HasPinned c.args.self.now.frames m.frames c.pin.new.pass c.in_ok-pin.field-0 =
    subst (λ (x : DbValue g.row.D.Denot). HasPinned x.frames m.frames c.pin.new.pass c.in_ok-pin.field-0) c.self.view_is
    pinned in
    let same : m.frames.journal ≡ c.args.self.now.frames.journal =
    e.journal ∙ ap (λ (x : DbValue g.row.D.Denot). x.frames.journal) c.self.view_is in
    let begins : Goes g.D.Disk c.args.self.now m [] =
    subst (λ (x : DbValue g.row.D.Denot). Goes g.D.Disk x m []) c.self.view_is
    (one_nothing g.D.Disk (pin_step g.D.Disk a m refl e.added e.journal e.begins pinned)) in
    let ends : Goes g.D.Disk s b [] = one_nothing g.D.Disk
    (unpin_step g.D.Disk s b refl c.maintain-worked.new.pass.pin u.keeps.added u.keeps.journal u.keeps.begins u.pins) in
    let clean = up_of_frames g.D.Disk m s c.pin.new.pass c.maintain-worked.new.pass l.through.0 refl l.through.2 in (
      l.through.0 ++ [],
      subst (AreKindsOf c.args.vacuums) (sym (append-nil l.through.0)) l.through.1,
      sweep_path
          g.D.Disk c.args.self.now m s b l.through.0 begins ends clean,
    )

pub returns-clause-snapshot : goal.returns-clause-snapshot
returns-clause-snapshot g c =
    let a : DbValue g.row.D.Denot = record { frames = c.self.inside.frames; pending = c.self.inside.pending } in
    let m : DbValue g.row.D.Denot = record { frames = c.pin.new.self; pending = c.self.inside.pending } in
    let s : DbValue g.row.D.Denot = record { frames = c.maintain-worked.new.frames; pending = c.self.inside.pending } in
    let b : DbValue g.row.D.Denot = record { frames = c.unpin.new.self; pending = c.self.inside.pending } in
    let e = c.pin.ensures.keeps in
    let l = c.maintain-worked.ensures in
    let u = c.unpin.ensures in
    let pinned = c.in_ok-pin.ensures.pinned in
    let old_pinned : HasPinned c.args.self.now.frames m.frames c.pin.new.pass c.in_ok-pin.field-0 =
    subst (λ (x : DbValue g.row.D.Denot). HasPinned x.frames m.frames c.pin.new.pass c.in_ok-pin.field-0) c.self.view_is
    pinned in
    let same : m.frames.journal ≡ c.args.self.now.frames.journal =
    e.journal ∙ ap (λ (x : DbValue g.row.D.Denot). x.frames.journal) c.self.view_is in
    snapshot_after c.args.self.now m b c.self.inside.frames c.args.pass.now c.pin.new.pass c.maintain-worked.new.pass
    c.unpin.new.pass _ c.requires.session.rests same pinned e.rises e.same.1 l.through.2.room
    (let le = l.through.2.rises.shown in le) u.keeps.rises u.keeps.same.1 u.pass

pub returns-in_err-worked-clause-fault : goal.returns-in_err-worked-clause-fault
returns-in_err-worked-clause-fault g c =
    let a : DbValue g.row.D.Denot = record { frames = c.self.inside.frames; pending = c.self.inside.pending } in
    let m : DbValue g.row.D.Denot = record { frames = c.pin.new.self; pending = c.self.inside.pending } in
    let s : DbValue g.row.D.Denot = record { frames = c.maintain-worked.new.frames; pending = c.self.inside.pending } in
    let b : DbValue g.row.D.Denot = record { frames = c.unpin.new.self; pending = c.self.inside.pending } in
    let e = c.pin.ensures.keeps in
    let l = c.maintain-worked.ensures in
    let u = c.unpin.ensures in
    let pinned = c.in_ok-pin.ensures.pinned in
    let old_pinned : HasPinned c.args.self.now.frames m.frames c.pin.new.pass c.in_ok-pin.field-0 =
    subst (λ (x : DbValue g.row.D.Denot). HasPinned x.frames m.frames c.pin.new.pass c.in_ok-pin.field-0) c.self.view_is
    pinned in
    let same : m.frames.journal ≡ c.args.self.now.frames.journal =
    e.journal ∙ ap (λ (x : DbValue g.row.D.Denot). x.frames.journal) c.self.view_is in
    let begins : Goes g.D.Disk c.args.self.now m [] =
    subst (λ (x : DbValue g.row.D.Denot). Goes g.D.Disk x m []) c.self.view_is
    (one_nothing g.D.Disk (pin_step g.D.Disk a m refl e.added e.journal e.begins pinned)) in
    let ends : Goes g.D.Disk s b [] = one_nothing g.D.Disk
    (unpin_step g.D.Disk s b refl c.maintain-worked.new.pass.pin u.keeps.added u.keeps.journal u.keeps.begins u.pins) in
    let clean = up_of_frames g.D.Disk m s c.pin.new.pass c.maintain-worked.new.pass l.through.0 refl l.through.2 in
    let up : IsUp c.args.self.now =
    subst IsUp c.self.view_is
    (up_at_pin (down_of c.self.inside.frames.journal.wal) c.pin.result c.in_ok-pin.field-0 c.pin.ensures.is_down
    c.in_ok-pin.was) in
    let w : PlaceError = c.in_err-worked.field-0.0 in
    let q = err_from_is_err_and c.from_residual-in_err-worked.result c.from_residual-in_err-worked.ensures.1 in
    let answer : Result ⊤ DbError = Err (place_refusal w) in
    let told : FaultIsTold g.D.Disk c.args.self.now b answer =
    told_still g.D.Disk c.args.self.now s b answer
    (told_in_turn g.D.Disk c.args.self.now m s answer (time_of g.D.Disk begins)
    (kept_fault g.D.Disk c.args.self.now m same) (place_told g.D.Disk ⊤ m s w c.in_err-worked.ensures.fault))
    u.keeps.journal in
    subst (λ (r : Result ⊤ DbError). FaultIsTold g.D.Disk c.args.self.now b r) (sym (q.1 ∙ ap Err q.2)) told

pub returns-in_err-worked-clause-answered : goal.returns-in_err-worked-clause-answered
returns-in_err-worked-clause-answered g c =
    let a : DbValue g.row.D.Denot = record { frames = c.self.inside.frames; pending = c.self.inside.pending } in
    let m : DbValue g.row.D.Denot = record { frames = c.pin.new.self; pending = c.self.inside.pending } in
    let s : DbValue g.row.D.Denot = record { frames = c.maintain-worked.new.frames; pending = c.self.inside.pending } in
    let b : DbValue g.row.D.Denot = record { frames = c.unpin.new.self; pending = c.self.inside.pending } in
    let e = c.pin.ensures.keeps in
    let l = c.maintain-worked.ensures in
    let u = c.unpin.ensures in
    let pinned = c.in_ok-pin.ensures.pinned in
    let old_pinned : HasPinned c.args.self.now.frames m.frames c.pin.new.pass c.in_ok-pin.field-0 =
    subst (λ (x : DbValue g.row.D.Denot). HasPinned x.frames m.frames c.pin.new.pass c.in_ok-pin.field-0) c.self.view_is
    pinned in
    let same : m.frames.journal ≡ c.args.self.now.frames.journal =
    e.journal ∙ ap (λ (x : DbValue g.row.D.Denot). x.frames.journal) c.self.view_is in
    let begins : Goes g.D.Disk c.args.self.now m [] =
    subst (λ (x : DbValue g.row.D.Denot). Goes g.D.Disk x m []) c.self.view_is
    (one_nothing g.D.Disk (pin_step g.D.Disk a m refl e.added e.journal e.begins pinned)) in
    let ends : Goes g.D.Disk s b [] = one_nothing g.D.Disk
    (unpin_step g.D.Disk s b refl c.maintain-worked.new.pass.pin u.keeps.added u.keeps.journal u.keeps.begins u.pins) in
    let clean = up_of_frames g.D.Disk m s c.pin.new.pass c.maintain-worked.new.pass l.through.0 refl l.through.2 in
    let up : IsUp c.args.self.now =
    subst IsUp c.self.view_is
    (up_at_pin (down_of c.self.inside.frames.journal.wal) c.pin.result c.in_ok-pin.field-0 c.pin.ensures.is_down
    c.in_ok-pin.was) in
    let w : PlaceError = c.in_err-worked.field-0.0 in
    let q = err_from_is_err_and c.from_residual-in_err-worked.result c.from_residual-in_err-worked.ensures.1 in
    let answer : Result ⊤ DbError = Err (place_refusal w) in
    let told : FaultIsTold g.D.Disk c.args.self.now b answer =
    told_still g.D.Disk c.args.self.now s b answer
    (told_in_turn g.D.Disk c.args.self.now m s answer (time_of g.D.Disk begins)
    (kept_fault g.D.Disk c.args.self.now m same) (place_told g.D.Disk ⊤ m s w c.in_err-worked.ensures.fault))
    u.keeps.journal in
    subst (λ (r : Result ⊤ DbError). HasMaintained g.D.Disk c.args.vacuums c.args.self.now b r) (sym (q.1 ∙ ap Err q.2))
    (refused_as g.D.Disk ⊤ c.args.vacuums c.args.self.now b w up
    (ends_around g.D.Disk c.args.self.now.frames m.frames s.frames b.frames c.args.vacuums
    (at_goes g.D.Disk c.args.self.now m begins) (added_by_none g.D.Disk c.args.self.now m begins)
    (quiet_pin c.args.self.now.frames m.frames c.pin.new.pass _ old_pinned same)
    (added_by_none g.D.Disk s b ends) w c.in_err-worked.ensures.cause) told)

pub returns-clause-fault : goal.returns-clause-fault
returns-clause-fault g c =
    let a : DbValue g.row.D.Denot = record { frames = c.self.inside.frames; pending = c.self.inside.pending } in
    let m : DbValue g.row.D.Denot = record { frames = c.pin.new.self; pending = c.self.inside.pending } in
    let s : DbValue g.row.D.Denot = record { frames = c.maintain-worked.new.frames; pending = c.self.inside.pending } in
    let b : DbValue g.row.D.Denot = record { frames = c.unpin.new.self; pending = c.self.inside.pending } in
    let e = c.pin.ensures.keeps in
    let l = c.maintain-worked.ensures in
    let u = c.unpin.ensures in
    let pinned = c.in_ok-pin.ensures.pinned in
    let old_pinned : HasPinned c.args.self.now.frames m.frames c.pin.new.pass c.in_ok-pin.field-0 =
    subst (λ (x : DbValue g.row.D.Denot). HasPinned x.frames m.frames c.pin.new.pass c.in_ok-pin.field-0) c.self.view_is
    pinned in
    let same : m.frames.journal ≡ c.args.self.now.frames.journal =
    e.journal ∙ ap (λ (x : DbValue g.row.D.Denot). x.frames.journal) c.self.view_is in
    let begins : Goes g.D.Disk c.args.self.now m [] =
    subst (λ (x : DbValue g.row.D.Denot). Goes g.D.Disk x m []) c.self.view_is
    (one_nothing g.D.Disk (pin_step g.D.Disk a m refl e.added e.journal e.begins pinned)) in
    let ends : Goes g.D.Disk s b [] = one_nothing g.D.Disk
    (unpin_step g.D.Disk s b refl c.maintain-worked.new.pass.pin u.keeps.added u.keeps.journal u.keeps.begins u.pins) in
    let clean = up_of_frames g.D.Disk m s c.pin.new.pass c.maintain-worked.new.pass l.through.0 refl l.through.2 in
    let answer : Result ⊤ DbError = Ok tt in
    told_still g.D.Disk c.args.self.now s b answer
    (told_in_turn g.D.Disk c.args.self.now m s answer (time_of g.D.Disk begins)
    (kept_fault g.D.Disk c.args.self.now m same) (place_none g.D.Disk m s c.in_ok-worked.ensures.fine)) u.keeps.journal

pub returns-clause-answered : goal.returns-clause-answered
returns-clause-answered g c =
    let a : DbValue g.row.D.Denot = record { frames = c.self.inside.frames; pending = c.self.inside.pending } in
    let m : DbValue g.row.D.Denot = record { frames = c.pin.new.self; pending = c.self.inside.pending } in
    let s : DbValue g.row.D.Denot = record { frames = c.maintain-worked.new.frames; pending = c.self.inside.pending } in
    let b : DbValue g.row.D.Denot = record { frames = c.unpin.new.self; pending = c.self.inside.pending } in
    let e = c.pin.ensures.keeps in
    let l = c.maintain-worked.ensures in
    let u = c.unpin.ensures in
    let pinned = c.in_ok-pin.ensures.pinned in
    let old_pinned : HasPinned c.args.self.now.frames m.frames c.pin.new.pass c.in_ok-pin.field-0 =
    subst (λ (x : DbValue g.row.D.Denot). HasPinned x.frames m.frames c.pin.new.pass c.in_ok-pin.field-0) c.self.view_is
    pinned in
    let same : m.frames.journal ≡ c.args.self.now.frames.journal =
    e.journal ∙ ap (λ (x : DbValue g.row.D.Denot). x.frames.journal) c.self.view_is in
    let begins : Goes g.D.Disk c.args.self.now m [] =
    subst (λ (x : DbValue g.row.D.Denot). Goes g.D.Disk x m []) c.self.view_is
    (one_nothing g.D.Disk (pin_step g.D.Disk a m refl e.added e.journal e.begins pinned)) in
    let ends : Goes g.D.Disk s b [] = one_nothing g.D.Disk
    (unpin_step g.D.Disk s b refl c.maintain-worked.new.pass.pin u.keeps.added u.keeps.journal u.keeps.begins u.pins) in
    let clean = up_of_frames g.D.Disk m s c.pin.new.pass c.maintain-worked.new.pass l.through.0 refl l.through.2 in
    let up : IsUp c.args.self.now =
    subst IsUp c.self.view_is
    (up_at_pin (down_of c.self.inside.frames.journal.wal) c.pin.result c.in_ok-pin.field-0 c.pin.ensures.is_down
    c.in_ok-pin.was) in
    let records : c.pin.new.pass.seen ≡ (state_of c.args.self.now).records =
    pinned.seen ∙ ap (λ (j : JournalValue g.row.D.Denot). j.state.records) same in
    let of : IsPassOf c.args.self.now.frames c.args.pass.now = c.requires.session.rests.is_pass in
    let path = sweep_path g.D.Disk c.args.self.now m s b l.through.0 begins ends clean in
    let gone = sweep_gone g.D.Disk c.args.self.now m s b l.through.0 begins ends clean c.pin.new.pass.seen records
    c.in_ok-worked.ensures.gone in
    done_as g.D.Disk ⊤ c.args.vacuums c.args.self.now b tt up gone
    (λ no. moved_by_end g.D.Disk c.placing_keeps.ensures.pairs c.shift_keeps.ensures c.args.self.now b
    (l.through.0 ++ [])
    (up_as g.D.Disk c.args.self.now b (l.through.0 ++ [])
    (subst (λ (v : Bool). AreKindsOf v (l.through.0 ++ [])) no
    (subst (AreKindsOf c.args.vacuums) (sym (append-nil l.through.0)) l.through.1)) path)
    (omega (arith, of.some, of.seen)) gone)
    (λ is. vacuumed_around g.D.Disk c.args.self.now.frames m.frames s.frames b.frames
    (quiet_pin c.args.self.now.frames m.frames c.pin.new.pass _ old_pinned same) (added_by_none g.D.Disk s b ends)
    (c.in_ok-worked.ensures.vacuumed is))

pub returns-in_err-pin-clause-lawful : goal.returns-in_err-pin-clause-lawful
returns-in_err-pin-clause-lawful g c =
    let d = c.in_err-pin.ensures.error in
    let q = err_from_is_err_and c.from_residual.result c.from_residual.ensures.1 in
    subst (λ (r : Result ⊤ DbError). IfErr r (λ e. MeetsNoBadPage g.D.Disk c.args.self.now e))
    (sym (q.1 ∙ ap Err (q.2 ∙ ap frame_refusal d.1))) tt

pub returns-in_err-worked-clause-lawful : goal.returns-in_err-worked-clause-lawful
returns-in_err-worked-clause-lawful g c =
    let a : DbValue g.row.D.Denot = record { frames = c.self.inside.frames; pending = c.self.inside.pending } in
    let m : DbValue g.row.D.Denot = record { frames = c.pin.new.self; pending = c.self.inside.pending } in
    let s : DbValue g.row.D.Denot = record { frames = c.maintain-worked.new.frames; pending = c.self.inside.pending } in
    let b : DbValue g.row.D.Denot = record { frames = c.unpin.new.self; pending = c.self.inside.pending } in
    let e = c.pin.ensures.keeps in
    let l = c.maintain-worked.ensures in
    let u = c.unpin.ensures in
    let pinned = c.in_ok-pin.ensures.pinned in
    let old_pinned : HasPinned c.args.self.now.frames m.frames c.pin.new.pass c.in_ok-pin.field-0 =
    subst (λ (x : DbValue g.row.D.Denot). HasPinned x.frames m.frames c.pin.new.pass c.in_ok-pin.field-0) c.self.view_is
    pinned in
    let same : m.frames.journal ≡ c.args.self.now.frames.journal =
    e.journal ∙ ap (λ (x : DbValue g.row.D.Denot). x.frames.journal) c.self.view_is in
    let begins : Goes g.D.Disk c.args.self.now m [] =
    subst (λ (x : DbValue g.row.D.Denot). Goes g.D.Disk x m []) c.self.view_is
    (one_nothing g.D.Disk (pin_step g.D.Disk a m refl e.added e.journal e.begins pinned)) in
    let ends : Goes g.D.Disk s b [] = one_nothing g.D.Disk
    (unpin_step g.D.Disk s b refl c.maintain-worked.new.pass.pin u.keeps.added u.keeps.journal u.keeps.begins u.pins) in
    let clean = up_of_frames g.D.Disk m s c.pin.new.pass c.maintain-worked.new.pass l.through.0 refl l.through.2 in
    let up : IsUp c.args.self.now =
    subst IsUp c.self.view_is
    (up_at_pin (down_of c.self.inside.frames.journal.wal) c.pin.result c.in_ok-pin.field-0 c.pin.ensures.is_down
    c.in_ok-pin.was) in
    let w : PlaceError = c.in_err-worked.field-0.0 in
    let q = err_from_is_err_and c.from_residual-in_err-worked.result c.from_residual-in_err-worked.ensures.1 in
    let quiet : IndexGoesOn g.D.Disk c.args.self.now.frames m.frames [] = goes_by_none g.D.Disk c.args.self.now m begins
    in
    let kept = kept_fault g.D.Disk c.args.self.now m same in
    let met : MetNoFault g.D.Disk c.args.self.now.frames m.frames =
    record { later = quiet.rises.faults; writes = kept.writes; down = kept.down } in
    subst (λ (r : Result ⊤ DbError). IfErr r (λ e. MeetsNoBadPage g.D.Disk c.args.self.now e)) (sym (q.1 ∙ ap Err q.2))
    (store_never g.D.Disk c.args.self.now w
    (never_before g.D.Disk c.args.self.now.frames m.frames [] w quiet met c.in_err-worked.ensures.lawful))

pub returns-in_err-worked-clause-pinned : goal.returns-in_err-worked-clause-pinned
returns-in_err-worked-clause-pinned g c =
    let a : DbValue g.row.D.Denot = record { frames = c.self.inside.frames; pending = c.self.inside.pending } in
    let m : DbValue g.row.D.Denot = record { frames = c.pin.new.self; pending = c.self.inside.pending } in
    let s : DbValue g.row.D.Denot = record { frames = c.maintain-worked.new.frames; pending = c.self.inside.pending } in
    let b : DbValue g.row.D.Denot = record { frames = c.unpin.new.self; pending = c.self.inside.pending } in
    let e = c.pin.ensures.keeps in
    let l = c.maintain-worked.ensures in
    let u = c.unpin.ensures in
    let pinned = c.in_ok-pin.ensures.pinned in
    let old_pinned : HasPinned c.args.self.now.frames m.frames c.pin.new.pass c.in_ok-pin.field-0 =
    subst (λ (x : DbValue g.row.D.Denot). HasPinned x.frames m.frames c.pin.new.pass c.in_ok-pin.field-0) c.self.view_is
    pinned in
    let same : m.frames.journal ≡ c.args.self.now.frames.journal =
    e.journal ∙ ap (λ (x : DbValue g.row.D.Denot). x.frames.journal) c.self.view_is in
    pins_around c.args.self.now.frames.pins m.frames.pins b.frames.pins pinned.place _ old_pinned.free old_pinned.pins
    (given_up s.frames b.frames c.maintain-worked.new.pass.pin _ (l.through.2.pin ∙ pinned.pin) u.pins
    ∙ ap (λ (ps : List (Option Pin)). slice_set ps pinned.place None) l.through.2.pins)

pub returns-clause-pinned : goal.returns-clause-pinned
returns-clause-pinned g c =
    let a : DbValue g.row.D.Denot = record { frames = c.self.inside.frames; pending = c.self.inside.pending } in
    let m : DbValue g.row.D.Denot = record { frames = c.pin.new.self; pending = c.self.inside.pending } in
    let s : DbValue g.row.D.Denot = record { frames = c.maintain-worked.new.frames; pending = c.self.inside.pending } in
    let b : DbValue g.row.D.Denot = record { frames = c.unpin.new.self; pending = c.self.inside.pending } in
    let e = c.pin.ensures.keeps in
    let l = c.maintain-worked.ensures in
    let u = c.unpin.ensures in
    let pinned = c.in_ok-pin.ensures.pinned in
    let old_pinned : HasPinned c.args.self.now.frames m.frames c.pin.new.pass c.in_ok-pin.field-0 =
    subst (λ (x : DbValue g.row.D.Denot). HasPinned x.frames m.frames c.pin.new.pass c.in_ok-pin.field-0) c.self.view_is
    pinned in
    let same : m.frames.journal ≡ c.args.self.now.frames.journal =
    e.journal ∙ ap (λ (x : DbValue g.row.D.Denot). x.frames.journal) c.self.view_is in
    pins_around c.args.self.now.frames.pins m.frames.pins b.frames.pins pinned.place _ old_pinned.free old_pinned.pins
    (given_up s.frames b.frames c.maintain-worked.new.pass.pin _ (l.through.2.pin ∙ pinned.pin) u.pins
    ∙ ap (λ (ps : List (Option Pin)). slice_set ps pinned.place None) l.through.2.pins)
