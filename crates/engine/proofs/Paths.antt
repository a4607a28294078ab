-- The steps of a path, of the clauses of each call of the frames, and paths one behind the other. The
-- faults that calls meet one after another.
use Rattle.std.proofs.Common.{◌≡◌, ℕ, List, [], ◌∷◌, ◌++◌, refl, sym, ap, subst, ◌∙◌, ⊎_elim, append_assoc, arith}
use Rattle.std.proofs.Common.{length, length-append}
use Rattle.std.specs.Prelude.{◌↔◌, Option, Some, None, MatchOption, Result, Ok, Err, IsErrOf, slice_set}
use Rattle.std.proofs.lemmas.List.{append-nil}
use Rattle.disk_trait.specs.declared.device.Disk.{Ghosts as Disk}
use Rattle.wal.specs.Waiting.{limit_of, down_of, length_with}
use Rattle.page_types.specs.Records.{kind_number}
use Rattle.page_types.specs.declared.record.Record.{Record}
use Rattle.core_state.specs.Log.{Log}
use Rattle.core_state.specs.Legal.{IsLegal}
use Rattle.core_state.specs.Allowed.{Step}
use Rattle.core_state.specs.States.{step_of}
use Rattle.buffer_frames.specs.Frames.{Stands, Behind, RunsOn, KeepsState}
use Rattle.buffer_frames.specs.Beginnings.{BeginsOn, BeginsWith}
use Rattle.buffer_frames.specs.Journals.{JournalValue, after_owed, logged, logged_bytes, next_record}
use Rattle.buffer_frames.specs.LogCauses.{WriteHasCause, GoesDown, LogFullWhere, IsCalm, HoldHasCause, RoseAtFault}
use Rattle.buffer_frames.specs.Passes.{HasAdded, HasPinned}
use Rattle.buffer_frames.specs.declared.pass.Pass.{Pass}
use Rattle.buffer_frames.specs.declared.pass.Pinned.{Pinned}
use Rattle.buffer_frames.specs.declared.log_error.LogError.{LogError}
use Rattle.buffer_frames.specs.declared.log_error.LogError.TheVariants as logs
use Rattle.buffer_frames.specs.declared.frame_error.FrameError.{FrameError}
use Rattle.buffer_frames.specs.declared.frame_error.FrameError.TheVariants as frames
use Rattle.buffer_frames.proofs.JournalKept.{state_kept, runs_kept, calm_kept}
use Rattle.buffer_frames.proofs.StepsKept.{number_drawn}
use Rattle.engine.specs.Db.{DbValue, disk_of, fault_of}
use Rattle.engine.specs.Going.{PinsRise, TimeGoesOn, LogsNothing, LogsOne, Goes, stays, nothing, one}
use Rattle.engine.specs.Going.{MetFault, MetNoFault, FaultIsTold}
use Rattle.engine.specs.Inner.Parts.{Later}
use Rattle.engine.specs.Inner.Refusals.{log_refusal, frame_refusal}
use Rattle.engine.specs.declared.error.DbError.{DbError}
use Rattle.engine.specs.declared.error.DbError.TheVariants as store
use Rattle.engine.proofs.PinsRisen.{pins_same, pins_taken, pins_given_up}

-- ── causes ──

-- a log that answers Ok is up
pub up_at_ok : {T : Type 0} (o : Option ℕ) (r : Result T LogError) (x : T)
    → ((f : ℕ) → (r ≡ Err (logs.Down f)) ↔ (o ≡ Some f)) → r ≡ Ok x → o ≡ None
up_at_ok None r x down ok = refl
up_at_ok (Some f) r x down ok = let is : r ≡ Err (logs.Down f) = (down f).1 refl in absurd (let e : ⊥ = cc in e)

-- a log that answers DiskFault was up
pub up_at_fault : {T : Type 0} (o : Option ℕ) (r : Result T LogError)
    → ((f : ℕ) → (r ≡ Err (logs.Down f)) ↔ (o ≡ Some f)) → IsErrOf r logs.DiskFault → o ≡ None
up_at_fault None r down fault = refl
up_at_fault (Some f) r down fault =
    let is : r ≡ Err (logs.Down f) = (down f).1 refl in
    absurd (let e : ⊥ = cc in e)

module _ {D : Type 0} (device : Disk D) where
  -- ── time ──

  pub time_stays : (s : DbValue D) → TimeGoesOn device s s
  time_stays s = record { time = omega arith; faults = omega arith; writes = omega arith }

  pub time_in_turn : {a b c : DbValue D} → TimeGoesOn device a b → TimeGoesOn device b c → TimeGoesOn device a c
  time_in_turn p q = record {
    time = omega (arith, p.time, q.time);
    faults = omega (arith, p.faults, q.faults);
    writes = omega (arith, p.writes, q.writes);
  }

  pub time_of : {a b : DbValue D} {rs : List Record} → Goes device a b rs → TimeGoesOn device a b
  time_of {a} stays = time_stays a
  time_of (nothing p s) = time_in_turn (time_of p) s.goes_on
  time_of (one p s) = time_in_turn (time_of p) s.goes_on

  -- a setting stays
  pub pending_of : {a b : DbValue D} {rs : List Record} → Goes device a b rs → b.pending ≡ a.pending
  pending_of stays = refl
  pending_of (nothing p s) = s.pending ∙ pending_of p
  pending_of (one p s) = s.pending ∙ pending_of p

  -- ── paths ──

  pub one_nothing : {a b : DbValue D} → LogsNothing device a b → Goes device a b []
  one_nothing s = nothing stays s

  pub one_record : {a b : DbValue D} {r : Record} → LogsOne device a b r → Goes device a b (r ∷ [])
  one_record s = one stays s

  pub goes_on : {a b c : DbValue D} {rs qs : List Record} → Goes device a b rs → Goes device b c qs
      → Goes device a c (rs ++ qs)
  goes_on {a} {b} {c} {rs} p stays = subst (Goes device a c) (sym (append-nil rs)) p
  goes_on p (nothing q s) = nothing (goes_on p q) s
  goes_on {a} {b} {c} {rs} p (one {rs = qs} {r = r} q s) =
      subst (Goes device a c) (append_assoc rs qs (r ∷ [])) (one (goes_on p q) s)

  -- and then logs nothing more
  pub goes_still : {a b c : DbValue D} {rs : List Record} → Goes device a b rs → Goes device b c []
      → Goes device a c rs
  goes_still {a} {b} {c} {rs} p q = subst (Goes device a c) (append-nil rs) (goes_on p q)

  -- where nothing is logged the state stays
  pub path_state : {a b : DbValue D} → Goes device a b [] → KeepsState a.frames b.frames
  path_state {a} {b} p = go p refl
    where
      go : {b : DbValue D} {rs : List Record} → Goes device a b rs → rs ≡ [] → KeepsState a.frames b.frames
      go stays none = record { state = refl; owes = refl; work = refl }
      go (nothing p s) none =
          let k = go p none in
          record {
            state = (s.state).state ∙ k.state;
            owes = (s.state).owes ∙ k.owes;
            work = (s.state).work ∙ k.work;
          }
      go (one {rs = rs} {r = r} p s) none =
          absurd (omega (arith, length-append rs (r ∷ []), ap length none))

  -- what is so after some steps that log nothing
  pub later_on : {a b : DbValue D} {Why : DbValue D → Type 0} → Goes device a b [] → Later device b Why
      → Later device a Why
  later_on p (s, q, why) = (s, goes_on p q, why)

  -- ── the steps of calls ──

  -- a page is given back, or the state of the log is asked
  pub calm_step : (a b : DbValue D) (keeps : b.pending ≡ a.pending) → HasAdded device a.frames b.frames []
      → KeepsState a.frames b.frames
      → RunsOn device a.frames b.frames → BeginsOn device a.frames.journal b.frames.journal
      → IsCalm device a.frames.journal b.frames.journal → b.frames.pins ≡ a.frames.pins → LogsNothing device a b
  calm_step a b keeps added state runs begins calm pins = record {
    added = added;
    state = state;
    runs_on = runs;
    begins = begins;
    goes_on = record { time = calm.time; faults = calm.later; writes = omega (arith, calm.no_write) };
    pins = pins_same a b pins;
    pending = keeps;
  }

  -- the journal stays as it is
  kept_step : (a b : DbValue D) (keeps : b.pending ≡ a.pending) → HasAdded device a.frames b.frames []
      → b.frames.journal ≡ a.frames.journal
      → BeginsOn device a.frames.journal b.frames.journal → PinsRise a b → LogsNothing device a b
  kept_step a b keeps added same begins pins =
      let calm = calm_kept device a.frames.journal b.frames.journal same in
      record {
        added = added;
        state = state_kept a.frames b.frames same;
        runs_on = runs_kept device a.frames b.frames same;
        begins = begins;
        goes_on = record { time = calm.time; faults = calm.later; writes = omega (arith, calm.no_write) };
        pins = pins;
        pending = keeps;
      }

  -- a snapshot is taken into use
  pub pin_step : {pass : Pass} {n : ℕ} (a b : DbValue D) (keeps : b.pending ≡ a.pending)
      → HasAdded device a.frames b.frames []
      → b.frames.journal ≡ a.frames.journal → BeginsOn device a.frames.journal b.frames.journal
      → HasPinned a.frames b.frames pass n → LogsNothing device a b
  pin_step a b keeps added same begins pinned = kept_step a b keeps added same begins (pins_taken a b pinned same)

  -- one is given up, if there is any
  pub unpin_step : (a b : DbValue D) (keeps : b.pending ≡ a.pending) (pin : Option Pinned)
      → HasAdded device a.frames b.frames []
      → b.frames.journal ≡ a.frames.journal → BeginsOn device a.frames.journal b.frames.journal
      → MatchOption pin (b.frames.pins ≡ a.frames.pins)
      (λ (p : Pinned). b.frames.pins ≡ slice_set a.frames.pins p.place None)
      → LogsNothing device a b
  unpin_step a b keeps pin added same begins pins = kept_step a b keeps added same begins (pins_given_up a b pin pins)

  -- a page is held
  pub hold_step : {T : Type 0} (a b : DbValue D) (keeps : b.pending ≡ a.pending) (r : Result T FrameError)
      → HasAdded device a.frames b.frames []
      → KeepsState a.frames b.frames → RunsOn device a.frames b.frames
      → BeginsOn device a.frames.journal b.frames.journal
      → HoldHasCause device a.frames.journal b.frames.journal r → b.frames.pins ≡ a.frames.pins
      → LogsNothing device a b
  hold_step a b keeps r added state runs begins cause pins = record {
    added = added;
    state = state;
    runs_on = runs;
    begins = begins;
    goes_on = ⊎_elim
        (λ c. record { time = (c.0).time; faults = (c.0).later; writes = omega (arith, (c.0).no_write) })
        (λ c. record { time = (c.1).time; faults = ((c.1).later).0; writes = ((c.1).later).1 })
        cause.either;
    pins = pins_same a b pins;
    pending = keeps;
  }

  -- the log is flushed, or a record is refused
  pub write_step : {T : Type 0} (a b : DbValue D) (keeps : b.pending ≡ a.pending) (r : Result T LogError)
      → HasAdded device a.frames b.frames []
      → KeepsState a.frames b.frames → RunsOn device a.frames b.frames
      → BeginsOn device a.frames.journal b.frames.journal → WriteHasCause device (disk_of a) (disk_of b) r
      → b.frames.pins ≡ a.frames.pins → LogsNothing device a b
  write_step a b keeps r added state runs begins cause pins = record {
    added = added;
    state = state;
    runs_on = runs;
    begins = begins;
    goes_on = record { time = cause.time; faults = (cause.later).0; writes = (cause.later).1 };
    pins = pins_same a b pins;
    pending = keeps;
  }

  -- a record is logged
  pub logged_step : {T : Type 0} (a b : DbValue D) (keeps : b.pending ≡ a.pending) (r : Result T LogError) (x : T)
      (step : Step) → r ≡ Ok x
      → HasAdded device a.frames b.frames (kind_number step.kind ∷ [])
      → ((R : Log) → Stands device a.frames R
      → Stands device b.frames (logged a.frames.journal.owes (next_record a.frames.journal step) R))
      → Behind device a.frames
      (λ (R : Log). IsLegal (logged a.frames.journal.owes (next_record a.frames.journal step) R))
      → b.frames.journal.state
      ≡ step_of (next_record a.frames.journal step) (after_owed a.frames.journal.owes a.frames.journal.state)
      → LogFullWhere (limit_of a.frames.journal.wal)
      (length_with a.frames.journal.wal (logged_bytes a.frames.journal (next_record a.frames.journal step))) r
      → ((f : ℕ) → (r ≡ Err (logs.Down f)) ↔ (down_of a.frames.journal.wal ≡ Some f))
      → RunsOn device a.frames b.frames
      → BeginsWith device a.frames.journal b.frames.journal (next_record a.frames.journal step)
      → WriteHasCause device (disk_of a) (disk_of b) r → b.frames.pins ≡ a.frames.pins
      → b.frames.journal.work ≡ a.frames.journal.work
      → LogsOne device a b (next_record a.frames.journal step)
  logged_step a b keeps r x step ok added stands legal state full down runs begins cause pins work = record {
    up = up_at_ok (fault_of a) r x down ok;
    added = subst (λ (n : ℕ). HasAdded device a.frames b.frames (n ∷ []))
        (sym (number_drawn (after_owed a.frames.journal.owes a.frames.journal.state) step.kind)) added;
    stands = stands;
    legal = legal;
    state = state;
    work = work;
    room = subst (LogFullWhere (limit_of a.frames.journal.wal)
        (length_with a.frames.journal.wal (logged_bytes a.frames.journal (next_record a.frames.journal step))))
        ok full;
    runs_on = runs;
    begins = begins;
    goes_on = record { time = cause.time; faults = (cause.later).0; writes = (cause.later).1 };
    pins = pins_same a b pins;
    pending = keeps;
  }

  -- ── faults ──

  -- a call that is calm
  pub calm_fault : (a b : DbValue D) → IsCalm device a.frames.journal b.frames.journal → MetNoFault device a b
  calm_fault a b calm = record { writes = calm.no_write; down = calm.down }

  -- one that leaves the journal as it is
  pub kept_fault : (a b : DbValue D) → b.frames.journal ≡ a.frames.journal → MetNoFault device a b
  kept_fault a b same = calm_fault a b (calm_kept device a.frames.journal b.frames.journal same)

  pub fault_stays : (s : DbValue D) → MetNoFault device s s
  fault_stays s = record { writes = refl; down = refl }

  -- a write that meets none
  pub write_no_fault : {T : Type 0} (a b : DbValue D) (r : Result T LogError) → (IsErrOf r logs.DiskFault → ⊥)
      → WriteHasCause device (disk_of a) (disk_of b) r
      → GoesDown r (device.fault_count (disk_of b)) (fault_of a) (fault_of b) → MetNoFault device a b
  write_no_fault a b (Ok x) none cause down = record { writes = cause.write_fault; down = down }
  write_no_fault a b (Err logs.DiskFault) none cause down = absurd (none refl)
  write_no_fault a b (Err logs.LogFull) none cause down = record { writes = cause.write_fault; down = down }
  write_no_fault a b (Err logs.XidsSpent) none cause down = record { writes = cause.write_fault; down = down }
  write_no_fault a b (Err (logs.Down f)) none cause down = record { writes = cause.write_fault; down = down }
  write_no_fault a b (Err logs.OutOfMemory) none cause down = record { writes = cause.write_fault; down = down }

  -- one that meets one
  pub write_fault : {T : Type 0} (a b : DbValue D) (r : Result T LogError) → IsErrOf r logs.DiskFault
      → ((f : ℕ) → (r ≡ Err (logs.Down f)) ↔ (fault_of a ≡ Some f))
      → WriteHasCause device (disk_of a) (disk_of b) r
      → GoesDown r (device.fault_count (disk_of b)) (fault_of a) (fault_of b) → MetFault device a b
  write_fault {T} a b r is up cause down = record {
    up = up_at_fault (fault_of a) r up is;
    rose = cause.fault is;
    writes = subst (λ (q : Result T LogError). RoseAtFault q (device.write_fault_count (disk_of a))
        (device.write_fault_count (disk_of b))) is cause.write_fault;
    down = subst (λ (q : Result T LogError). GoesDown q (device.fault_count (disk_of b)) (fault_of a) (fault_of b))
        is down;
  }

  -- the same as the store tells it
  pub told_none : {T : Type 0} {a b : DbValue D} (r : Result T DbError) → (IsErrOf r store.DiskFault → ⊥)
      → MetNoFault device a b → FaultIsTold device a b r
  told_none (Ok x) none met = met
  told_none (Err store.DiskFault) none met = absurd (none refl)
  told_none (Err store.NoDocument) none met = met
  told_none (Err (store.Conflict x)) none met = met
  told_none (Err store.StoreFull) none met = met
  told_none (Err store.LogFull) none met = met
  told_none (Err store.XidsSpent) none met = met
  told_none (Err (store.Down f)) none met = met
  told_none (Err (store.BadPage p)) none met = met
  told_none (Err store.OutOfMemory) none met = met

  pub told_fault : {T : Type 0} {a b : DbValue D} (r : Result T DbError) → IsErrOf r store.DiskFault
      → MetFault device a b → FaultIsTold device a b r
  told_fault {T} {a} {b} r is met = subst (FaultIsTold device a b) (sym is) met

  pub untold : {T : Type 0} (a b : DbValue D) (r : Result T DbError) → (IsErrOf r store.DiskFault → ⊥)
      → FaultIsTold device a b r → MetNoFault device a b
  untold a b (Ok x) none told = told
  untold a b (Err store.DiskFault) none told = absurd (none refl)
  untold a b (Err store.NoDocument) none told = told
  untold a b (Err (store.Conflict x)) none told = told
  untold a b (Err store.StoreFull) none told = told
  untold a b (Err store.LogFull) none told = told
  untold a b (Err store.XidsSpent) none told = told
  untold a b (Err (store.Down f)) none told = told
  untold a b (Err (store.BadPage p)) none told = told
  untold a b (Err store.OutOfMemory) none told = told

  -- a refusal of a write, and of a hold
  pub write_told : {T : Type 0} (U : Type 0) (a b : DbValue D) (r : Result T LogError) (e : LogError) → r ≡ Err e
      → ((f : ℕ) → (r ≡ Err (logs.Down f)) ↔ (fault_of a ≡ Some f))
      → WriteHasCause device (disk_of a) (disk_of b) r
      → GoesDown r (device.fault_count (disk_of b)) (fault_of a) (fault_of b)
      → (let answer : Result U DbError = Err (log_refusal e) in FaultIsTold device a b answer)
  write_told U a b r logs.DiskFault is up cause down = write_fault a b r is up cause down
  write_told U a b r logs.LogFull is up cause down = write_no_fault a b r (λ no. cc) cause down
  write_told U a b r logs.XidsSpent is up cause down = write_no_fault a b r (λ no. cc) cause down
  write_told U a b r (logs.Down f) is up cause down = write_no_fault a b r (λ no. cc) cause down
  write_told U a b r logs.OutOfMemory is up cause down = write_no_fault a b r (λ no. cc) cause down

  pub hold_no_fault : {T : Type 0} (a b : DbValue D) (r : Result T FrameError) → (IsErrOf r frames.DiskFault → ⊥)
      → HoldHasCause device a.frames.journal b.frames.journal r → MetNoFault device a b
  hold_no_fault a b r none cause = ⊎_elim (λ c. calm_fault a b c.0) (λ c. absurd (none c.0)) cause.either

  pub hold_fault : {T : Type 0} (a b : DbValue D) (r : Result T FrameError) → IsErrOf r frames.DiskFault
      → HoldHasCause device a.frames.journal b.frames.journal r → MetFault device a b
  hold_fault a b r is cause = ⊎_elim
      (λ c. absurd (c.1 is))
      (λ c. record {
        up = (c.1).up;
        rose = cause.fault is;
        writes = (c.1).write_fault;
        down = (c.1).down;
      })
      cause.either

  pub hold_told : {T : Type 0} (U : Type 0) (a b : DbValue D) (r : Result T FrameError) (e : FrameError) → r ≡ Err e
      → HoldHasCause device a.frames.journal b.frames.journal r
      → (let answer : Result U DbError = Err (frame_refusal e) in FaultIsTold device a b answer)
  hold_told U a b r frames.DiskFault is cause = hold_fault a b r is cause
  hold_told U a b r (frames.Down f) is cause = hold_no_fault a b r (λ no. cc) cause
  hold_told U a b r (frames.BadPage p) is cause = hold_no_fault a b r (λ no. cc) cause
  hold_told U a b r frames.OutOfMemory is cause = hold_no_fault a b r (λ no. cc) cause

  -- ── calls one after another ──

  pub none_in_turn : {a b c : DbValue D} → MetNoFault device a b → MetNoFault device b c → MetNoFault device a c
  none_in_turn p q = record { writes = q.writes ∙ p.writes; down = q.down ∙ p.down }

  pub fault_in_turn : {a b c : DbValue D} → TimeGoesOn device a b → MetNoFault device a b → MetFault device b c
      → MetFault device a c
  fault_in_turn {a} {b} {c} time none met = record {
    up = sym none.down ∙ met.up;
    rose = omega (arith, time.faults, met.rose);
    writes = omega (arith, none.writes, met.writes);
    down = met.down;
  }

  -- after a call that meets none
  pub told_in_turn : {T : Type 0} (a b c : DbValue D) (r : Result T DbError) → TimeGoesOn device a b
      → MetNoFault device a b → FaultIsTold device b c r → FaultIsTold device a c r
  told_in_turn a b c (Ok x) time none told = none_in_turn none told
  told_in_turn a b c (Err store.DiskFault) time none told = fault_in_turn time none told
  told_in_turn a b c (Err store.NoDocument) time none told = none_in_turn none told
  told_in_turn a b c (Err (store.Conflict x)) time none told = none_in_turn none told
  told_in_turn a b c (Err store.StoreFull) time none told = none_in_turn none told
  told_in_turn a b c (Err store.LogFull) time none told = none_in_turn none told
  told_in_turn a b c (Err store.XidsSpent) time none told = none_in_turn none told
  told_in_turn a b c (Err (store.Down f)) time none told = none_in_turn none told
  told_in_turn a b c (Err (store.BadPage p)) time none told = none_in_turn none told
  told_in_turn a b c (Err store.OutOfMemory) time none told = none_in_turn none told

  -- before a call that leaves the journal as it is
  pub none_still : {a b c : DbValue D} → MetNoFault device a b → c.frames.journal ≡ b.frames.journal
      → MetNoFault device a c
  none_still {a} {b} {c} met same = none_in_turn met (kept_fault b c same)

  pub fault_still : {a b c : DbValue D} → MetFault device a b → c.frames.journal ≡ b.frames.journal
      → MetFault device a c
  fault_still met same = record {
    up = met.up;
    rose = omega (arith, ap (λ (j : JournalValue D). device.fault_count j.disk) same, met.rose);
    writes = omega (arith, ap (λ (j : JournalValue D). device.write_fault_count j.disk) same, met.writes);
    down = ap (λ (j : JournalValue D). down_of j.wal) same ∙ met.down
        ∙ ap (λ (j : JournalValue D). Some (device.fault_count j.disk)) (sym same);
  }

  pub told_still : {T : Type 0} (a b c : DbValue D) (r : Result T DbError) → FaultIsTold device a b r
      → c.frames.journal ≡ b.frames.journal → FaultIsTold device a c r
  told_still a b c (Ok x) told same = none_still told same
  told_still a b c (Err store.DiskFault) told same = fault_still told same
  told_still a b c (Err store.NoDocument) told same = none_still told same
  told_still a b c (Err (store.Conflict x)) told same = none_still told same
  told_still a b c (Err store.StoreFull) told same = none_still told same
  told_still a b c (Err store.LogFull) told same = none_still told same
  told_still a b c (Err store.XidsSpent) told same = none_still told same
  told_still a b c (Err (store.Down f)) told same = none_still told same
  told_still a b c (Err (store.BadPage p)) told same = none_still told same
  told_still a b c (Err store.OutOfMemory) told same = none_still told same
