-- The faults of calls, one after another.
use Rattle.std.proofs.Common.{◌≡◌, ◌↔◌, ◌≤◌, ℕ, Result, Ok, Err, refl, sym, ap, subst, ◌∙◌, inl, inr, arith}
use Rattle.std.specs.Prelude.{Option, Some, None, IsErrOf}
use Rattle.disk_trait.specs.Device.{Rose}
use Rattle.disk_trait.specs.declared.device.Disk.{Ghosts as Disk}
use Rattle.wal.specs.Waiting.{down_of}
use Rattle.buffer_frames.specs.Frames.{FramesValue}
use Rattle.buffer_frames.specs.Journals.{JournalValue}
use Rattle.buffer_frames.specs.LogCauses.{IsCalm, HoldHasCause, WriteHasCause, GoesDown}
use Rattle.buffer_frames.specs.declared.frame_error.FrameError.{FrameError}
use Rattle.buffer_frames.specs.declared.frame_error.FrameError.TheVariants as frames
use Rattle.buffer_frames.specs.declared.log_error.LogError.{LogError}
use Rattle.buffer_frames.specs.declared.log_error.LogError.TheVariants as logs
use Rattle.gin_place.specs.Faults.{MetFault, MetNoFault, FaultBy}
use Rattle.gin_place.specs.Inner.Refusals.{frame_refusal, log_refusal}
use Rattle.gin_place.specs.declared.error.PlaceError.{PlaceError}
use Rattle.gin_place.specs.declared.error.PlaceError.TheVariants.{StoreFull, LogFull, DiskFault, Down, BadPage}
use Rattle.gin_place.specs.declared.error.PlaceError.TheVariants.{OutOfMemory}

up_fault : {T : Type 0} (o : Option ℕ) (r : Result T LogError) → r ≡ Err logs.DiskFault
    → ((n : ℕ) → (r ≡ Err (logs.Down n)) ↔ (o ≡ Some n)) → o ≡ None
up_fault None r is down = refl
up_fault (Some n) r is down =
    let two : Err logs.DiskFault ≡ Err (logs.Down n) = sym is ∙ (down n).1 refl in
    let z : ⊥ = cc in absurd z

rose_earlier : (a b c : ℕ) → a ≤ b → Rose b c → Rose a c
rose_earlier a b c le rose = omega (arith, le, rose)

module _ {D : Type 0} (device : Disk D) where
  -- a journal that is down stays as it is
  abbrev pub Rests : FramesValue D → FramesValue D → Type 0
  Rests f g = (n : ℕ) → down_of f.journal.wal ≡ Some n → g.journal ≡ f.journal

  pub rests_then : (f g h : FramesValue D) → IsCalm device f.journal g.journal → Rests f g → Rests g h → Rests f h
  rests_then f g h calm x y n down = y n (calm.down ∙ down) ∙ x n down

  pub calm_then : (f g h : FramesValue D) → IsCalm device f.journal g.journal → IsCalm device g.journal h.journal
      → IsCalm device f.journal h.journal
  calm_then f g h x y = record {
    down = y.down ∙ x.down;
    time = omega (arith, x.time, y.time);
    later = omega (arith, x.later, y.later);
    no_write = y.no_write ∙ x.no_write;
  }

  -- ── none is met ──

  pub calm_fine : (f g : FramesValue D) → IsCalm device f.journal g.journal → MetNoFault device f g
  calm_fine f g calm = record { later = calm.later; writes = calm.no_write; down = calm.down }

  pub fine_still : (f : FramesValue D) → MetNoFault device f f
  fine_still f = record { later = omega arith; writes = refl; down = refl }

  pub fine_then : (f g h : FramesValue D) → MetNoFault device f g → MetNoFault device g h → MetNoFault device f h
  fine_then f g h x y = record {
    later = omega (arith, x.later, y.later);
    writes = y.writes ∙ x.writes;
    down = y.down ∙ x.down;
  }

  -- ── one may be met in the last call ──

  fault_then : (f g h : FramesValue D) → MetNoFault device f g → MetFault device g h → MetFault device f h
  fault_then f g h none met = record {
    up = sym none.down ∙ met.up;
    rose = rose_earlier (device.fault_count f.journal.disk) (device.fault_count g.journal.disk)
        (device.fault_count h.journal.disk) none.later met.rose;
    writes = subst (λ (n : ℕ). Rose n (device.write_fault_count h.journal.disk)) none.writes met.writes;
    down = met.down;
  }

  pub told_then : (f g h : FramesValue D) (e : PlaceError) → MetNoFault device f g → FaultBy device g h e
      → FaultBy device f h e
  told_then f g h DiskFault none told = fault_then f g h none told
  told_then f g h StoreFull none told = fine_then f g h none told
  told_then f g h LogFull none told = fine_then f g h none told
  told_then f g h (Down n) none told = (fine_then f g h none told.0, told.1)
  told_then f g h (BadPage p) none told = fine_then f g h none told
  told_then f g h OutOfMemory none told = fine_then f g h none told

  -- ── pages are given back then ──

  fault_back : (f g h : FramesValue D) → MetFault device f g → h.journal ≡ g.journal → MetFault device f h
  fault_back f g h met same =
      let faults : device.fault_count h.journal.disk ≡ device.fault_count g.journal.disk =
      ap (λ (j : JournalValue D). device.fault_count j.disk) same in
      let writes : device.write_fault_count h.journal.disk ≡ device.write_fault_count g.journal.disk =
      ap (λ (j : JournalValue D). device.write_fault_count j.disk) same in
      record {
        up = met.up;
        rose = subst (Rose (device.fault_count f.journal.disk)) (sym faults) met.rose;
        writes = subst (Rose (device.write_fault_count f.journal.disk)) (sym writes) met.writes;
        down = ap (λ (j : JournalValue D). down_of j.wal) same ∙ met.down ∙ ap Some (sym faults);
      }

  pub told_back : (f g h : FramesValue D) (e : PlaceError) → FaultBy device f g e
      → IsCalm device g.journal h.journal → Rests g h → FaultBy device f h e
  told_back f g h DiskFault told calm rests =
      fault_back f g h told (rests (device.fault_count g.journal.disk) told.down)
  told_back f g h StoreFull told calm rests = fine_then f g h told (calm_fine g h calm)
  told_back f g h LogFull told calm rests = fine_then f g h told (calm_fine g h calm)
  told_back f g h (Down n) told calm rests = (fine_then f g h told.0 (calm_fine g h calm), calm.down ∙ told.1)
  told_back f g h (BadPage p) told calm rests = fine_then f g h told (calm_fine g h calm)
  told_back f g h OutOfMemory told calm rests = fine_then f g h told (calm_fine g h calm)

  -- ── a question is refused ──

  pub down_told : (f g h : FramesValue D) (e : PlaceError) (n : ℕ) → e ≡ Down n → MetNoFault device f g
      → IsCalm device g.journal h.journal → down_of g.journal.wal ≡ Some n → FaultBy device f h e
  down_told f g h e n is fine calm down =
      subst (FaultBy device f h) (sym is) (fine_then f g h fine (calm_fine g h calm), calm.down ∙ down)

  -- ── a page is held ──

  pub hold_fine : {T : Type 0} (f g : FramesValue D) (r : Result T FrameError) (x : T) → r ≡ Ok x
      → HoldHasCause device f.journal g.journal r → MetNoFault device f g
  hold_fine f g r x is cause = elim cause.either [
    | inl c ↦ calm_fine f g c.0
    | inr c ↦ absurd (let z : Ok x ≡ Err frames.DiskFault = sym is ∙ c.0 in let y : ⊥ = cc in y)
  ]

  hold_none : {T : Type 0} (f g : FramesValue D) (r : Result T FrameError) → (IsErrOf r frames.DiskFault → ⊥)
      → HoldHasCause device f.journal g.journal r → MetNoFault device f g
  hold_none f g r none cause = elim cause.either [ inl c ↦ calm_fine f g c.0 | inr c ↦ absurd (none c.0) ]

  hold_met : {T : Type 0} (f g : FramesValue D) (r : Result T FrameError) → IsErrOf r frames.DiskFault
      → HoldHasCause device f.journal g.journal r → MetFault device f g
  hold_met f g r is cause = elim cause.either [
    | inl c ↦ absurd (c.1 is)
    | inr c ↦ record { up = (c.1).up; rose = cause.fault is; writes = (c.1).write_fault; down = (c.1).down }
  ]

  pub hold_told : {T : Type 0} (f g : FramesValue D) (r : Result T FrameError) (e : FrameError) → r ≡ Err e
      → ((n : ℕ) → (r ≡ Err (frames.Down n)) ↔ (down_of f.journal.wal ≡ Some n))
      → HoldHasCause device f.journal g.journal r → FaultBy device f g (frame_refusal e)
  hold_told f g r frames.DiskFault is downs cause = hold_met f g r is cause
  hold_told f g r (frames.Down n) is downs cause =
      let fine = hold_none f g r
      (λ no. let z : Err (frames.Down n) ≡ Err frames.DiskFault = sym is ∙ no in let y : ⊥ = cc in y) cause in
      (fine, fine.down ∙ (downs n).0 is)
  hold_told f g r (frames.BadPage p) is downs cause =
      hold_none f g r
      (λ no. let z : Err (frames.BadPage p) ≡ Err frames.DiskFault = sym is ∙ no in let y : ⊥ = cc in y) cause
  hold_told f g r frames.OutOfMemory is downs cause =
      hold_none f g r
      (λ no. let z : Err frames.OutOfMemory ≡ Err frames.DiskFault = sym is ∙ no in let y : ⊥ = cc in y) cause

  -- ── a record is logged, or refused ──

  module _ {T : Type 0} (f g : FramesValue D) where
    -- what is known of it
    abbrev Logs : Result T LogError → Type 0
    Logs r = WriteHasCause device f.journal.disk g.journal.disk r
        × GoesDown r (device.fault_count g.journal.disk) (down_of f.journal.wal) (down_of g.journal.wal)

    abbrev Downs : Result T LogError → Type 0
    Downs r = (n : ℕ) → (r ≡ Err (logs.Down n)) ↔ (down_of f.journal.wal ≡ Some n)

    by_ok : (x : T) → Logs (Ok x) → MetNoFault device f g
    by_ok x l = record { later = (l.0).later.0; writes = (l.0).write_fault; down = l.1 }

    pub log_fine : (r : Result T LogError) (x : T) → r ≡ Ok x
        → WriteHasCause device f.journal.disk g.journal.disk r
        → GoesDown r (device.fault_count g.journal.disk) (down_of f.journal.wal) (down_of g.journal.wal)
        → MetNoFault device f g
    log_fine r x is cause down = by_ok x (subst Logs is (cause, down))

    by_err : (e : LogError) → Downs (Err e) → Logs (Err e) → FaultBy device f g (log_refusal e)
    by_err logs.DiskFault ups l = record {
      up = up_fault (down_of f.journal.wal) (Err logs.DiskFault) refl ups;
      rose = (l.0).fault refl;
      writes = (l.0).write_fault;
      down = l.1;
    }
    by_err logs.LogFull ups l = record { later = (l.0).later.0; writes = (l.0).write_fault; down = l.1 }
    by_err logs.XidsSpent ups l = record { later = (l.0).later.0; writes = (l.0).write_fault; down = l.1 }
    by_err (logs.Down n) ups l =
        (record { later = (l.0).later.0; writes = (l.0).write_fault; down = l.1 }, l.1 ∙ (ups n).0 refl)
    by_err logs.OutOfMemory ups l = record { later = (l.0).later.0; writes = (l.0).write_fault; down = l.1 }

    pub log_told : (r : Result T LogError) (e : LogError) → r ≡ Err e
        → ((n : ℕ) → (r ≡ Err (logs.Down n)) ↔ (down_of f.journal.wal ≡ Some n))
        → WriteHasCause device f.journal.disk g.journal.disk r
        → GoesDown r (device.fault_count g.journal.disk) (down_of f.journal.wal) (down_of g.journal.wal)
        → FaultBy device f g (log_refusal e)
    log_told r e is ups cause down =
        by_err e (subst Downs is ups) (subst Logs is (cause, down))
