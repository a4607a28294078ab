-- A cleanup step by step: what it leaves, and why it ends.
use Rattle.std.proofs.Common.{◌≡◌, ◌≤◌, ◌<◌, ℕ, Bool, false, List, [], ◌++◌, length, refl, sym, ap, subst}
use Rattle.std.proofs.Common.{◌∙◌}
use Rattle.std.proofs.Common.{arith}
use Rattle.std.specs.Prelude.{Option, Some, None, Result, Ok, Err, OnOk, IfErr}
use Rattle.disk_trait.specs.declared.device.Disk.{Ghosts as Disk}
use Rattle.wal.specs.Waiting.{down_of}
use Rattle.page_types.specs.Numbers.{page_limit}
use Rattle.page_types.specs.declared.page.Row.{Row}
use Rattle.core_state.specs.Log.{Log, Shows, cut}
use Rattle.core_state.specs.Legal.{IsLegal}
use Rattle.core_maintenance.specs.Keeping.{PairsHold, ShiftHolds}
use Rattle.buffer_frames.specs.Frames.{FramesValue, Stands, Behind}
use Rattle.buffer_frames.specs.Passes.{IsPassOf, GoesOnBy, HasAdded, with_right}
use Rattle.buffer_frames.specs.declared.pass.Pass.{Pass}
use Rattle.buffer_frames.proofs.AtHand.{cut_length, log_length, parts_of}
use Rattle.buffer_frames.proofs.Begun.{same_by_none}
use Rattle.buffer_frames.proofs.FirstLogs.{shown_by}
use Rattle.buffer_frames.proofs.HistoryParts.{legal_before}
use Rattle.gin_place.specs.Causes.{Finds, NoBadPage}
use Rattle.gin_place.specs.Faults as place
use Rattle.gin_place.specs.Faults.{FaultBy}
use Rattle.gin_place.specs.declared.error.PlaceError.{PlaceError}
use Rattle.gin_place.specs.declared.error.PlaceError.TheVariants.{StoreFull, LogFull, DiskFault, Down, BadPage}
use Rattle.gin_place.specs.declared.error.PlaceError.TheVariants.{OutOfMemory}
use Rattle.gin_place.proofs.Carrying.{cut_cut}
use Rattle.gin_place.proofs.Faults.{fine_then}
use Rattle.gin_cleanup.specs.Cleaning.{IsStillIn, SaysWhether}
use Rattle.gin_cleanup.specs.Going.{IsCause}
use Rattle.gin_vacuum.specs.Ending as vacuum
use Rattle.engine.specs.Answers.{MeetsNoBadPage}
use Rattle.engine.specs.Cleaning.{IsAt, Comes, AreMoved, CannotClean}
use Rattle.engine.specs.Db.{DbValue, state_of, IsUp}
use Rattle.engine.specs.Going.{Goes, MetNoFault, FaultIsTold}
use Rattle.engine.specs.Inner.Cleaned.{IndexGoesOn, CleansThrough, WorksUp, CleansUp, AreGoneSince, EndsBy, NeverBad}
use Rattle.engine.specs.Inner.Refusals.{place_refusal}
use Rattle.engine.specs.declared.error.DbError.{DbError}
use Rattle.engine.proofs.AtWork.{at_in_turn, at_through, at_works}
use Rattle.engine.proofs.Cleanups.{up_in_turn, up_by_none, added_by_none}
use Rattle.engine.proofs.PendingMoved.{moved_all}

pub on_ok : {T E : Type 0} {A B : Type 0} (r : Result T E) → (A → B) → OnOk r A → OnOk r B
on_ok (Ok x) f a = f a
on_ok (Err e) f a = tt

pub if_err_both : {T E : Type 0} {A B C : E → Type 0} (r : Result T E) → ((e : E) → A e → B e → C e) → IfErr r A
    → IfErr r B
    → IfErr r C
if_err_both (Ok x) f a b = tt
if_err_both (Err e) f a b = f e a b

module _ {D : Type 0} (device : Disk D) where
  -- ── what is gone ──

  -- where a pass says that no row is still linked, none is
  pub gone_by : (g : FramesValue D) (q : Pass) (from : ℕ) (more : Bool) → IsPassOf g q → more ≡ false
      → SaysWhether device g q from more → AreGoneSince device from g
  gone_by g q from more of ends says tells up R stands legal w still =
      let long = log_length device g.journal R stands.journal in
      let within : q.seen ≤ length R = omega (arith, of.seen, long) in
      let legal_seen : IsLegal (cut q.seen R) =
      legal_before _ (cut q.seen R) (subst IsLegal (parts_of q.seen R) legal) in
      let P = shown_by (cut q.seen R) legal_seen.valid in
      (says tells up R stands legal P.0 P.1).0 ends w (λ m ge le Q at.
      let most : m ≤ q.seen = omega (arith, le, cut_length q.seen R within) in
      still m ge (omega (arith, most, within)) Q
      (subst (λ (L : Log). Shows L Q) (cut_cut m q.seen R most within) at))

  -- nor is one that was linked earlier still linked
  pub gone_earlier : (g : FramesValue D) (n from : ℕ) → n ≤ from → AreGoneSince device from g → AreGoneSince device n g
  gone_earlier g n from least gone tells up R stands legal w still =
      gone tells up R stands legal w (λ m ge le P at. still m (omega (arith, least, ge)) le P at)

  -- what holds of each legal log holds of those after a call that logs nothing, and before one
  pub behind_then : (f g : FramesValue D) (X : Log → Type 0) → HasAdded device f g [] → Behind device f X
      → Behind device g X
  behind_then f g X added was tells up R stands legal =
      let b = added.back tells up R stands in
      let same : R ≡ b.0 = same_by_none f.journal.owes b.0 R b.2 in
      subst X (sym same) (was tells (added.was_up up) b.0 b.1 (subst IsLegal same legal))

  -- ── why it ends ──

  -- a step is refused, after others
  pub ends_by : (f m g : FramesValue D) (p q r : Pass) (ks : List ℕ) (e : PlaceError)
      → down_of f.journal.wal ≡ None → CleansThrough device f p m q ks → HasAdded device m g []
      → FaultBy device f g e → Finds device m q (IsCause device g e) → EndsBy device f g e
  ends_by f m g p q r ks e up through refused told found = by e told found
    where
      comes : (x : PlaceError) → Finds device m q (IsCause device g x) → Comes device f g x
      comes x (h, u, works, met, why) = record {
        frames = h;
        pass = u;
        at = at_in_turn f m h (at_through device f m p q ks through) (at_works device m h q u [] works);
        is_pass = works.is_pass;
        kinds = ks;
        cleaning = through.are;
        logs = λ R s.
            let on = through.added.on R s in
            let there = works.added.on on.0 on.1 in
            let left = refused.on on.0 on.1 in (
              on.0,
              on.2,
              subst (Stands device h) (same_by_none m.journal.owes on.0 there.0 there.2) there.1,
              subst (Stands device g) (same_by_none m.journal.owes on.0 left.0 left.2) left.1,
            );
        left = g;
        cause = why;
      }

      by : (x : PlaceError) → FaultBy device f g x → Finds device m q (IsCause device g x) → EndsBy device f g x
      by StoreFull told found = comes StoreFull found
      by LogFull told found = comes LogFull found
      by (BadPage p) told found = comes (BadPage p) found
      by (Down n) told found =
          let z : None ≡ Some n = sym (told.0.down ∙ up) ∙ told.1 in absurd (let y : ⊥ = cc in y)
      by DiskFault told found = tt
      by OutOfMemory told found = tt

  pub comes_before : (f m g : FramesValue D) (e : PlaceError) → IsAt f m → HasAdded device f m [] → Comes device m g e
      → Comes device f g e
  comes_before f m g e at added c = record {
    frames = c.frames;
    pass = c.pass;
    at = at_in_turn f m c.frames at c.at;
    is_pass = c.is_pass;
    kinds = c.kinds;
    cleaning = c.cleaning;
    logs = λ R s.
        let on = added.on R s in
        let same : on.0 ≡ R = same_by_none f.journal.owes R on.0 on.2 in
        let l = c.logs R (subst (Stands device m) same on.1) in
        (l.0, subst (λ (o : Bool). GoesOnBy o R l.0 c.kinds) added.owes l.1, l.2, l.3);
    left = c.left;
    cause = c.cause;
  }

  comes_after : (f g h : FramesValue D) (e : PlaceError) → HasAdded device g h [] → Comes device f g e
      → Comes device f h e
  comes_after f g h e added c = record {
    frames = c.frames;
    pass = c.pass;
    at = c.at;
    is_pass = c.is_pass;
    kinds = c.kinds;
    cleaning = c.cleaning;
    logs = λ R s.
        let l = c.logs R s in
        let on = added.on l.0 l.3 in
        (l.0, l.1, l.2, subst (Stands device h) (same_by_none g.journal.owes l.0 on.0 on.2) on.1);
    left = c.left;
    cause = c.cause;
  }

  -- after calls that log nothing, and before such
  pub ends_before : (f m g : FramesValue D) (e : PlaceError) → IsAt f m → HasAdded device f m [] → EndsBy device m g e
      → EndsBy device f g e
  ends_before f m g StoreFull at added c = comes_before f m g StoreFull at added c
  ends_before f m g LogFull at added c = comes_before f m g LogFull at added c
  ends_before f m g (BadPage p) at added c = comes_before f m g (BadPage p) at added c
  ends_before f m g (Down n) at added c = c
  ends_before f m g DiskFault at added c = tt
  ends_before f m g OutOfMemory at added c = tt

  pub ends_after : (f g h : FramesValue D) (e : PlaceError) → HasAdded device g h [] → EndsBy device f g e
      → EndsBy device f h e
  ends_after f g h StoreFull added c = comes_after f g h StoreFull added c
  ends_after f g h LogFull added c = comes_after f g h LogFull added c
  ends_after f g h (BadPage p) added c = comes_after f g h (BadPage p) added c
  ends_after f g h (Down n) added c = c
  ends_after f g h DiskFault added c = tt
  ends_after f g h OutOfMemory added c = tt

  -- ── of a lawful store ──

  pub never_by : (f : FramesValue D) (e : PlaceError) → NoBadPage device f e → NeverBad device f e
  never_by f (BadPage p) none = λ t up numbers found R H b s. none numbers t up R s b.log_of.legal
  never_by f StoreFull none = tt
  never_by f LogFull none = tt
  never_by f (Down n) none = tt
  never_by f DiskFault none = tt
  never_by f OutOfMemory none = tt

  -- as other crates say it
  pub never_as : (f : FramesValue D) (e : PlaceError) → vacuum.NeverBad device f e → NeverBad device f e
  never_as f (BadPage p) none = none
  never_as f StoreFull none = tt
  never_as f LogFull none = tt
  never_as f (Down n) none = tt
  never_as f DiskFault none = tt
  never_as f OutOfMemory none = tt

  -- after others that met no fault
  pub never_before : (f m : FramesValue D) (ks : List ℕ) (e : PlaceError) → IndexGoesOn device f m ks
      → place.MetNoFault device f m → NeverBad device m e → NeverBad device f e
  never_before f m ks (BadPage p) goes met never = λ t up numbers found R H b s.
      let n = goes.begins t found R H b in
      never t (met.down ∙ up) (subst (λ (x : ℕ). x ≤ page_limit) (sym goes.state.pages) numbers) found n.0 n.1 n.4
      (n.5 s)
  never_before f m ks StoreFull goes met never = tt
  never_before f m ks LogFull goes met never = tt
  never_before f m ks (Down n) goes met never = tt
  never_before f m ks DiskFault goes met never = tt
  never_before f m ks OutOfMemory goes met never = tt

  pub store_never : (a : DbValue D) (e : PlaceError) → NeverBad device a.frames e
      → MeetsNoBadPage device a (place_refusal e)
  store_never a (BadPage p) never = λ t found H f up. never t up f.few found f.log H f.begins f.stands
  store_never a StoreFull never = tt
  store_never a LogFull never = tt
  store_never a (Down n) never = tt
  store_never a DiskFault never = tt
  store_never a OutOfMemory never = tt

  -- ── the right of maintenance ──

  -- where it is claimed or given back nothing fails
  pub right_fine : (f g : FramesValue D) (w : Option ℕ) → g ≡ with_right w f → place.MetNoFault device f g
  right_fine f g w is =
      subst (place.MetNoFault device f) (sym is) (record { later = omega arith; writes = refl; down = refl })

  pub fine_right : (f g h : FramesValue D) (w : Option ℕ) → h ≡ with_right w g → place.MetNoFault device f g
      → place.MetNoFault device f h
  fine_right f g h w is met = fine_then device f g h met (right_fine g h w is)

  fault_right : (f g h : FramesValue D) (w : Option ℕ) → h ≡ with_right w g → place.MetFault device f g
      → place.MetFault device f h
  fault_right f g h w is met = subst (place.MetFault device f) (sym is)
      (record { up = met.up; rose = met.rose; writes = met.writes; down = met.down })

  pub told_right : (f g h : FramesValue D) (w : Option ℕ) (e : PlaceError) → h ≡ with_right w g
      → FaultBy device f g e → FaultBy device f h e
  told_right f g h w DiskFault is met = fault_right f g h w is met
  told_right f g h w StoreFull is met = fine_right f g h w is met
  told_right f g h w LogFull is met = fine_right f g h w is met
  told_right f g h w (Down n) is met = (
    fine_right f g h w is met.0,
    ap (λ (x : FramesValue D). down_of x.journal.wal) is ∙ met.1,
  )
  told_right f g h w (BadPage p) is met = fine_right f g h w is met
  told_right f g h w OutOfMemory is met = fine_right f g h w is met

  -- ── as the store answers it ──

  none_told : (a b : DbValue D) → place.MetNoFault device a.frames b.frames → MetNoFault device a b
  none_told a b met = record { writes = met.writes; down = met.down }

  pub place_none : (a b : DbValue D) → place.MetNoFault device a.frames b.frames → MetNoFault device a b
  place_none a b met = none_told a b met

  pub place_told : (T : Type 0) (a b : DbValue D) (e : PlaceError) → FaultBy device a.frames b.frames e
      → (let answer : Result T DbError = Err (place_refusal e) in FaultIsTold device a b answer)
  place_told T a b DiskFault met = record { up = met.up; rose = met.rose; writes = met.writes; down = met.down }
  place_told T a b StoreFull met = none_told a b met
  place_told T a b LogFull met = none_told a b met
  place_told T a b (Down n) met = none_told a b met.0
  place_told T a b (BadPage p) met = none_told a b met
  place_told T a b OutOfMemory met = none_told a b met

  -- why it is refused
  pub refused_by : (T : Type 0) (a b : DbValue D) (e : PlaceError) → IsUp a → EndsBy device a.frames b.frames e
      → (let answer : Result T DbError = Err (place_refusal e) in FaultIsTold device a b answer)
      → CannotClean device a b (place_refusal e)
  refused_by T a b StoreFull up ends told = (up, ends)
  refused_by T a b LogFull up ends told = (up, ends)
  refused_by T a b (BadPage p) up ends told = (up, ends)
  refused_by T a b (Down n) up ends told = absurd ends
  refused_by T a b DiskFault up ends told = told
  refused_by T a b OutOfMemory up ends told = up

  -- what it has moved
  pub moved_by_end : PairsHold → ShiftHolds → (a b : DbValue D) (ks : List ℕ) → CleansUp device a b ks
      → 0 < (state_of a).records → AreGoneSince device (state_of a).records b.frames → AreMoved device a b
  moved_by_end pairs shifts a b ks c some gone = record {
    gone = gone;
    placed = moved_all pairs shifts device a.frames b.frames ks c.added c.are some gone;
  }

  -- ── in a snapshot of its own ──

  module _ {Is : ℕ → Type 0} (old m s b : DbValue D) (ks : List ℕ) (begins : Goes device old m [])
      (ends : Goes device s b []) (clean : WorksUp device Is m s ks) where
    pub sweep_path : WorksUp device Is old b (ks ++ [])
    sweep_path =
        up_in_turn device old m b [] (ks ++ []) (up_by_none device old m begins)
        (up_in_turn device m s b ks [] clean (up_by_none device s b ends))

    -- no row is linked then that was
    pub sweep_gone : (n : ℕ) → n ≡ (state_of old).records → AreGoneSince device n s.frames
        → AreGoneSince device (state_of old).records b.frames
    sweep_gone n at gone =
        subst (λ (k : ℕ). AreGoneSince device k b.frames) at
        (behind_then s.frames b.frames (λ (R : Log). (w : Row) → IsStillIn n R w → ⊥)
        (added_by_none device s b ends) gone)
