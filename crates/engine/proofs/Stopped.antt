-- Why a vacuum ends early.
use Rattle.std.proofs.Common.{◌≡◌, ◌⊎◌, ◌≤◌, ℕ, Bool, List, [], ◌∷◌, ◌++◌, refl, sym, subst, ◌∙◌, arith, append-nil}
use Rattle.std.proofs.Common.{inl, inr}
use Rattle.std.specs.Prelude.{Some, None, Result, Ok, Err, OnOk, IfErr}
use Rattle.std.specs.List.{AllByRecursion}
use Rattle.disk_trait.specs.declared.device.Disk.{Ghosts as Disk}
use Rattle.wal.specs.Waiting.{down_of}
use Rattle.core_state.specs.Log.{Log}
use Rattle.buffer_frames.specs.Frames.{FramesValue, Stands}
use Rattle.buffer_frames.specs.Passes.{IsPassOf, HasAdded, GoesOnBy}
use Rattle.buffer_frames.specs.declared.pass.Pass.{Pass}
use Rattle.buffer_frames.proofs.Added.{on_in_turn}
use Rattle.buffer_frames.proofs.Begun.{same_by_none}
use Rattle.gin_place.specs.Causes.{Finds}
use Rattle.gin_place.specs.Faults.{MetNoFault, FaultBy}
use Rattle.gin_place.specs.declared.error.PlaceError.{PlaceError}
use Rattle.gin_place.specs.declared.error.PlaceError.TheVariants.{StoreFull, LogFull, DiskFault, Down, BadPage}
use Rattle.gin_place.specs.declared.error.PlaceError.TheVariants.{OutOfMemory}
use Rattle.gin_cleanup.specs.Going.{IsCleaningKind}
use Rattle.gin_vacuum.specs.Causes.{CannotRead}
use Rattle.gin_vacuum.specs.Ending.{VacuumMeets}
use Rattle.gin_vacuum.specs.Freeing.{CannotFree, IsFreeKind}
use Rattle.gin_vacuum.specs.Going.{IsVacuumKind, VacuumsOn}
use Rattle.gin_vacuum.specs.Stepping.{IsBadIn, IsSweepKind}
use Rattle.gin_vacuum.specs.Stepping as sweeps
use Rattle.gin_vacuum.specs.Unlinked.{CannotList}
use Rattle.engine.specs.Cleaning.{IsAt, Comes}
use Rattle.engine.specs.Vacuuming.{IsIndexKind, IsTakingOut, IsVacuum, IsWhy, Stops, StopsFull}
use Rattle.engine.specs.Inner.Cleaned.{WorksThrough, EndsBy, NeverBad}
use Rattle.engine.specs.Inner.Vacuumed.{EndsTaking, EndsVacuum}
use Rattle.engine.proofs.AtWork.{at_in_turn, at_works, at_vacuums}
use Rattle.engine.proofs.Cleanups.{all_both, index_kinds}

-- ── kinds ──

index_vacuum : (ks : List ℕ) → AllByRecursion IsVacuumKind ks → AllByRecursion IsIndexKind ks
index_vacuum [] all = tt
index_vacuum (k ∷ ks) all = ((omega (arith, all.0.0), all.0.1), index_vacuum ks all.1)

-- trees alone; and then chains and slots
pub swept_alone : (ks : List ℕ) → AllByRecursion IsSweepKind ks → IsTakingOut ks
swept_alone ks all = record {
  sweeping = ks;
  freeing = [];
  order = sym (append-nil ks);
  are_sweeping = all;
  are_freeing = tt;
}

pub swept_freed : (ks js : List ℕ) → AllByRecursion IsSweepKind ks → AllByRecursion IsFreeKind js
    → IsTakingOut (ks ++ js)
swept_freed ks js all more = record {
  sweeping = ks;
  freeing = js;
  order = refl;
  are_sweeping = all;
  are_freeing = more;
}

-- the kinds of both
abbrev pub OutKind : ℕ → Type 0
OutKind k = (18 ≤ k) × (k ≤ 21)

pub kinds_taken : (ks : List ℕ) → IsTakingOut ks → AllByRecursion OutKind ks
kinds_taken ks t =
    subst (AllByRecursion OutKind) (sym t.order)
    (all_both OutKind t.sweeping t.freeing (low t.sweeping t.are_sweeping) (high t.freeing t.are_freeing))
  where
    low : (js : List ℕ) → AllByRecursion IsSweepKind js → AllByRecursion OutKind js
    low [] all = tt
    low (j ∷ js) all = ((all.0.0, omega (arith, all.0.1)), low js all.1)

    high : (js : List ℕ) → AllByRecursion IsFreeKind js → AllByRecursion OutKind js
    high [] all = tt
    high (j ∷ js) all = ((omega (arith, all.0.0), all.0.1), high js all.1)

pub nothing_taken : IsTakingOut []
nothing_taken = swept_alone [] tt

pub vacuumed : (ks js : List ℕ) → AllByRecursion IsCleaningKind ks → IsTakingOut js → IsVacuum (ks ++ js)
vacuumed ks js all more = record {
  cleaning = ks;
  taking = js;
  order = refl;
  are_cleaning = all;
  are_taking = more;
}

module _ {D : Type 0} (device : Disk D) where
  pub through_vacuum : (f g : FramesValue D) (p q : Pass) (ks : List ℕ) → VacuumsOn device f p g q ks
      → WorksThrough device IsIndexKind f p g q ks
  through_vacuum f g p q ks v = record {
    is_pass = v.is_pass;
    added = v.added;
    are = index_vacuum ks v.vacuum;
    rises = v.rises;
    pin = v.pin;
    room = v.room;
    xid = v.xid;
    pins = v.pins;
    goes = record { rises = v.disk; state = v.state; rooms = v.rooms; runs = v.runs; begins = v.begins };
  }

  -- ── a step is refused ──

  stops_by : (f g left : FramesValue D) (p q : Pass) (ks : List ℕ) (e : PlaceError) → IsAt f g → IsPassOf g q
      → AllByRecursion IsIndexKind ks → ((R : Log) → Stands device f R
      → (R' : Log) × GoesOnBy f.journal.owes R R' ks × Stands device g R' × Stands device left R')
      → IsWhy device left e g q → Stops device f left e
  stops_by f g left p q ks e at of all logs why = record {
    frames = g;
    pass = q;
    at = at;
    is_pass = of;
    kinds = ks;
    index = all;
    logs = logs;
    left = left;
    cause = why;
  }

  -- one that reads
  pub stops_reading : (X : FramesValue D → Pass → Type 0) (f left : FramesValue D) (p : Pass) (e : PlaceError)
      → ((g : FramesValue D) (q : Pass) → X g q → IsWhy device left e g q) → HasAdded device f left []
      → Finds device f p X → Stops device f left e
  stops_reading X f left p e to refused (g, q, works, met, why) =
      stops_by f g left p q [] e (at_works device f g p q [] works) works.is_pass tt
      (λ R s.
      let there = (works.added).on R s in
      let then = refused.on R s in (
        there.0,
        there.2,
        there.1,
        subst (Stands device left)
            (same_by_none f.journal.owes R then.0 then.2 ∙ sym (same_by_none f.journal.owes R there.0 there.2)) then.1,
      )) (to g q why)

  -- one after others by which dead documents go
  pub stops_taking : (X : FramesValue D → Pass → Type 0) (f left : FramesValue D) (p : Pass) (e : PlaceError)
      → ((g : FramesValue D) (q : Pass) → X g q → IsWhy device left e g q)
      → VacuumMeets device f p left X → Stops device f left e
  stops_taking X f left p e to (g, q, ks, v, met, logs, why) =
      stops_by f g left p q ks e (at_vacuums device f g p q ks v) v.is_pass (index_vacuum ks v.vacuum) logs (to g q why)

  -- ── others before, and after ──

  pub stops_before : (f m g : FramesValue D) (ks : List ℕ) (e : PlaceError) → IsAt f m → HasAdded device f m ks
      → AllByRecursion IsIndexKind ks → Stops device m g e → Stops device f g e
  stops_before f m g ks e at added all c = record {
    frames = c.frames;
    pass = c.pass;
    at = at_in_turn f m c.frames at c.at;
    is_pass = c.is_pass;
    kinds = ks ++ c.kinds;
    index = all_both IsIndexKind ks c.kinds all c.index;
    logs = λ R s.
        let on = added.on R s in
        let l = c.logs on.0 on.1 in (
          l.0,
          on_in_turn f.journal.owes R on.0 l.0 ks c.kinds on.2
              (subst (λ (o : Bool). GoesOnBy o on.0 l.0 c.kinds) added.owes l.1),
          l.2,
          l.3,
        );
    left = c.left;
    cause = c.cause;
  }

  pub stops_after : (f g h : FramesValue D) (e : PlaceError) → HasAdded device g h [] → Stops device f g e
      → Stops device f h e
  stops_after f g h e added c = record {
    frames = c.frames;
    pass = c.pass;
    at = c.at;
    is_pass = c.is_pass;
    kinds = c.kinds;
    index = c.index;
    logs = λ R s.
        let l = c.logs R s in
        let on = added.on l.0 l.3 in
        (l.0, l.1, l.2, subst (Stands device h) (same_by_none g.journal.owes l.0 on.0 on.2) on.1);
    left = c.left;
    cause = c.cause;
  }

  -- a step of the cleanup
  pub stops_cleaning : (f g : FramesValue D) (e : PlaceError) → Comes device f g e → Stops device f g e
  stops_cleaning f g e c = record {
    frames = c.frames;
    pass = c.pass;
    at = c.at;
    is_pass = c.is_pass;
    kinds = c.kinds;
    index = index_kinds c.kinds c.cleaning;
    logs = c.logs;
    left = c.left;
    cause = IsWhy.cleaning c.cause;
  }

  -- ── as it is answered ──

  -- while the log was up nothing says that it is down
  up_still : (f g : FramesValue D) (n : ℕ) → down_of f.journal.wal ≡ None → FaultBy device f g (Down n) → ⊥
  up_still f g n up told =
      let z : None ≡ Some n = sym (told.0.down ∙ up) ∙ told.1 in let y : ⊥ = cc in y

  -- a step of taking out, of which the store is never full
  pub ends_taking : (f g : FramesValue D) (e : PlaceError) → down_of f.journal.wal ≡ None → FaultBy device f g e
      → (e ≡ StoreFull → ⊥) → Stops device f g e → EndsTaking device f g e
  ends_taking f g StoreFull up told full stops = full refl
  ends_taking f g LogFull up told full stops = stops
  ends_taking f g (BadPage p) up told full stops = stops
  ends_taking f g (Down n) up told full stops = up_still f g n up told
  ends_taking f g DiskFault up told full stops = stops
  ends_taking f g OutOfMemory up told full stops = stops

  -- what is so after others
  pub taking_before : (f m g : FramesValue D) (ks : List ℕ) (e : PlaceError) → IsAt f m → HasAdded device f m ks
      → AllByRecursion IsIndexKind ks → EndsTaking device m g e → EndsTaking device f g e
  taking_before f m g ks StoreFull at added all c = c
  taking_before f m g ks LogFull at added all c = stops_before f m g ks LogFull at added all c
  taking_before f m g ks (BadPage p) at added all c = stops_before f m g ks (BadPage p) at added all c
  taking_before f m g ks (Down n) at added all c = c
  taking_before f m g ks DiskFault at added all c = stops_before f m g ks DiskFault at added all c
  taking_before f m g ks OutOfMemory at added all c = stops_before f m g ks OutOfMemory at added all c

  pub vacuum_taking : (f g : FramesValue D) (e : PlaceError) → EndsTaking device f g e → EndsVacuum device f g e
  vacuum_taking f g StoreFull c = absurd c
  vacuum_taking f g LogFull c = c
  vacuum_taking f g (BadPage p) c = c
  vacuum_taking f g (Down n) c = absurd c
  vacuum_taking f g DiskFault c = tt
  vacuum_taking f g OutOfMemory c = tt

  -- the cleanup ends early, but not for want of a page
  pub vacuum_cleaning : (f m g : FramesValue D) (e : PlaceError) → IsAt f m → HasAdded device f m []
      → (e ≡ StoreFull → ⊥) → EndsBy device m g e → EndsVacuum device f g e
  vacuum_cleaning f m g StoreFull at added off c = absurd (off refl)
  vacuum_cleaning f m g LogFull at added off c =
      stops_before f m g [] LogFull at added tt (stops_cleaning m g LogFull c)
  vacuum_cleaning f m g (BadPage p) at added off c =
      stops_before f m g [] (BadPage p) at added tt (stops_cleaning m g (BadPage p) c)
  vacuum_cleaning f m g (Down n) at added off c = absurd c
  vacuum_cleaning f m g DiskFault at added off c = tt
  vacuum_cleaning f m g OutOfMemory at added off c = tt

  -- what each step says of a full store
  pub sweep_cause : (f left : FramesValue D) (p : Pass) (e : PlaceError) → down_of f.journal.wal ≡ None
      → FaultBy device f left e → VacuumMeets device f p left (sweeps.IsCause device (IsBadIn device) left e)
      → EndsTaking device f left e
  sweep_cause f left p e up told meets =
      ends_taking f left e up told (none e meets)
      (stops_taking _ f left p e (λ g q why. IsWhy.sweeping why) meets)
    where
      none : (x : PlaceError) → VacuumMeets device f p left (sweeps.IsCause device (IsBadIn device) left x)
          → x ≡ StoreFull → ⊥
      none StoreFull (g, q, ks, v, met, logs, why) e = why
      none LogFull m e = cc
      none (BadPage n) m e = cc
      none (Down n) m e = cc
      none DiskFault m e = cc
      none OutOfMemory m e = cc

  pub free_cause : (f left : FramesValue D) (p : Pass) (e : PlaceError) → down_of f.journal.wal ≡ None
      → FaultBy device f left e → VacuumMeets device f p left (CannotFree device left e)
      → EndsTaking device f left e
  free_cause f left p e up told meets =
      ends_taking f left e up told (none e meets)
      (stops_taking _ f left p e (λ g q why. IsWhy.freeing why) meets)
    where
      none : (x : PlaceError) → VacuumMeets device f p left (CannotFree device left x) → x ≡ StoreFull → ⊥
      none StoreFull (g, q, ks, v, met, logs, why) e = why
      none LogFull m e = cc
      none (BadPage n) m e = cc
      none (Down n) m e = cc
      none DiskFault m e = cc
      none OutOfMemory m e = cc

  pub list_cause : (f left : FramesValue D) (p : Pass) (e : PlaceError) → down_of f.journal.wal ≡ None
      → FaultBy device f left e → HasAdded device f left [] → Finds device f p (CannotList device left e)
      → EndsTaking device f left e
  list_cause f left p e up told added finds =
      ends_taking f left e up told (none e finds)
      (stops_reading _ f left p e (λ g q why. IsWhy.listing why) added finds)
    where
      none : (x : PlaceError) → Finds device f p (CannotList device left x) → x ≡ StoreFull → ⊥
      none StoreFull (g, q, works, met, why) e = why
      none LogFull m e = cc
      none (BadPage n) m e = cc
      none (Down n) m e = cc
      none DiskFault m e = cc
      none OutOfMemory m e = cc

  pub find_cause : (f left : FramesValue D) (p : Pass) (e : PlaceError) → down_of f.journal.wal ≡ None
      → FaultBy device f left e → HasAdded device f left [] → Finds device f p (CannotRead device left e)
      → EndsVacuum device f left e
  find_cause f left p e up told added finds =
      vacuum_taking f left e
      (ends_taking f left e up told (none e finds)
      (stops_reading _ f left p e (λ g q why. IsWhy.finding why) added finds))
    where
      none : (x : PlaceError) → Finds device f p (CannotRead device left x) → x ≡ StoreFull → ⊥
      none StoreFull (g, q, works, met, why) e = why
      none LogFull m e = cc
      none (BadPage n) m e = cc
      none (Down n) m e = cc
      none DiskFault m e = cc
      none OutOfMemory m e = cc

  -- ── after the cleanup found no page ──

  pub rest_by : {T : Type 0} {Left : Type 0} (f g : FramesValue D) (r : Result T PlaceError) (a : PlaceError)
      → (r ≡ Err DiskFault → a ≡ DiskFault) → (r ≡ Err OutOfMemory → a ≡ OutOfMemory) → OnOk r Left
      → IfErr r (λ e. EndsTaking device f g e) → a ≡ StoreFull
      → Stops device f g LogFull ⊎ (((p : ℕ) × Stops device f g (BadPage p)) ⊎ Left)
  rest_by f g (Ok x) a fault memory left ends full = inr (inr left)
  rest_by f g (Err StoreFull) a fault memory left ends full = absurd ends
  rest_by f g (Err LogFull) a fault memory left ends full = inl ends
  rest_by f g (Err (BadPage p)) a fault memory left ends full = inr (inl (p, ends))
  rest_by f g (Err (Down n)) a fault memory left ends full = absurd ends
  rest_by f g (Err DiskFault) a fault memory left ends full =
      let z : StoreFull ≡ DiskFault = sym full ∙ fault refl in absurd (let y : ⊥ = cc in y)
  rest_by f g (Err OutOfMemory) a fault memory left ends full =
      let z : StoreFull ≡ OutOfMemory = sym full ∙ memory refl in absurd (let y : ⊥ = cc in y)

  -- what is answered then
  abbrev FullOrOther : PlaceError → Type 0
  FullOrOther a = (a ≡ StoreFull) ⊎ ((a ≡ DiskFault) ⊎ (a ≡ OutOfMemory))

  none_met : {T : Type 0} (f g : FramesValue D) (r : Result T PlaceError) (a : PlaceError) → (a ≡ DiskFault → ⊥)
      → (r ≡ Err DiskFault → a ≡ DiskFault) → OnOk r (MetNoFault device f g) → IfErr r (λ e. FaultBy device f g e)
      → MetNoFault device f g
  none_met f g (Ok y) a off to met bad = met
  none_met f g (Err DiskFault) a off to met bad = absurd (off (to refl))
  none_met f g (Err StoreFull) a off to met bad = bad
  none_met f g (Err LogFull) a off to met bad = bad
  none_met f g (Err (Down n)) a off to met bad = bad.0
  none_met f g (Err (BadPage p)) a off to met bad = bad
  none_met f g (Err OutOfMemory) a off to met bad = bad

  pub told_full : {T : Type 0} (f g : FramesValue D) (r : Result T PlaceError) (a : PlaceError) → FullOrOther a
      → (r ≡ Err DiskFault → a ≡ DiskFault) → (a ≡ DiskFault → r ≡ Err DiskFault)
      → OnOk r (MetNoFault device f g) → IfErr r (λ e. FaultBy device f g e) → FaultBy device f g a
  told_full {T} f g r a (inr (inl fault)) to from fine told =
      subst (FaultBy device f g) (sym fault)
      (subst (λ (x : Result T PlaceError). IfErr x (λ e. FaultBy device f g e)) (from fault) told)
  told_full f g r a (inl full) to from fine told =
      subst (FaultBy device f g) (sym full) (none_met f g r a (λ is. let z : ⊥ = cc in z) to fine told)
  told_full f g r a (inr (inr memory)) to from fine told =
      subst (FaultBy device f g) (sym memory) (none_met f g r a (λ is. let z : ⊥ = cc in z) to fine told)

  pub fine_full : (f g : FramesValue D) (e : PlaceError) → e ≡ StoreFull → FaultBy device f g e → MetNoFault device f g
  fine_full f g e full told = subst (FaultBy device f g) full told

  pub comes_full : (f g : FramesValue D) (e : PlaceError) → e ≡ StoreFull → EndsBy device f g e
      → Comes device f g StoreFull
  comes_full f g e full ends = subst (EndsBy device f g) full ends

  pub full_ends : (f g : FramesValue D) (e : PlaceError) → FullOrOther e → (e ≡ StoreFull → StopsFull device f g)
      → EndsVacuum device f g e
  full_ends f g e (inl full) stops = subst (EndsVacuum device f g) (sym full) (stops full)
  full_ends f g e (inr (inl fault)) stops = subst (EndsVacuum device f g) (sym fault) tt
  full_ends f g e (inr (inr memory)) stops = subst (EndsVacuum device f g) (sym memory) tt

  pub full_lawful : (f : FramesValue D) (e : PlaceError) → FullOrOther e → NeverBad device f e
  full_lawful f e (inl full) = subst (NeverBad device f) (sym full) tt
  full_lawful f e (inr (inl fault)) = subst (NeverBad device f) (sym fault) tt
  full_lawful f e (inr (inr memory)) = subst (NeverBad device f) (sym memory) tt
