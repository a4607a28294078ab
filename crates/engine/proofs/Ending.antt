-- How a transaction ends: it is given up, or its Commit is logged and flushed.
use Rattle.std.proofs.Common.{◌≡◌, ◌≢◌, ◌≤◌, ◌⊎◌, inl, inr, ℕ, [], length, refl, sym, ap, subst, ◌∙◌, arith}
use Rattle.std.specs.Prelude.{None, OnOk, Result, Ok, Err}
use Rattle.disk_trait.specs.declared.device.Disk.{Ghosts as Disk}
use Rattle.page_types.specs.declared.record.Kind.TheVariants as kind
use Rattle.wal.specs.Waiting.{waiting, down_of}
use Rattle.core_state.specs.States.{StateValue}
use Rattle.buffer_frames.specs.Frames.{FramesValue}
use Rattle.buffer_frames.specs.Journals.{JournalValue}
use Rattle.buffer_frames.specs.Passes.{IsPassOf}
use Rattle.buffer_frames.specs.declared.pass.Pass.{Pass}
use Rattle.engine.specs.Db.{DbValue, fault_of, flushed_of, state_of, IsUp, IsFlushed}
use Rattle.engine.specs.Going.{LogsNothing, Goes, MetFault, MetNoFault, FaultIsTold}
use Rattle.engine.specs.Inner.Parts.{IsLeft, GivesUp, TellsRefusal, IsNotEnded}
use Rattle.engine.specs.Inner.Plain.{plain_record, CannotLog}
use Rattle.engine.specs.declared.error.DbError.{DbError}
use Rattle.engine.specs.declared.error.DbError.TheVariants.{NoDocument, Conflict, StoreFull, LogFull, XidsSpent, Down}
use Rattle.engine.specs.declared.error.DbError.TheVariants.{DiskFault, BadPage, OutOfMemory}
use Rattle.engine.proofs.Paths.{one_nothing, goes_on, goes_still}
use Rattle.engine.proofs.Paths.{none_in_turn, fault_in_turn, fault_still, none_still, told_none, untold}
use Rattle.engine.proofs.Plain.{commit_is, abort_is}

-- a pass that gives up its transaction
pub given_up : {D : Type 0} (f : FramesValue D) (pass : Pass) → IsPassOf f pass
    → IsPassOf f (record pass { xid = None })
given_up f pass of = record {
  some = of.some;
  seen = of.seen;
  all = tt;
  none_owed = λ owes. refl;
  shown = of.shown;
  pin = of.pin;
  free = of.free;
  few = of.few;
  now = of.now;
  below = of.below;
  work = of.work;
}

module _ {D : Type 0} (device : Disk D) where
  -- ── it is given up ──

  -- why it is left, after steps that log nothing, and before such
  left_more : {a m b : DbValue D} {x : ℕ} {e : DbError} → Goes device a m [] → fault_of m ≡ fault_of a
      → IsLeft device m b x e → IsLeft device a b x e
  left_more p same (IsLeft.failed is) = IsLeft.failed is
  left_more p same (IsLeft.memory is) = IsLeft.memory is
  left_more p same (IsLeft.full s r first last is over) = IsLeft.full s r (goes_still device p first) last is over
  left_more p same (IsLeft.down f is) = IsLeft.down f (sym same ∙ is)

  left_still : {a m b : DbValue D} {x : ℕ} {e : DbError} → IsLeft device a m x e → Goes device m b []
      → IsLeft device a b x e
  left_still (IsLeft.failed is) q = IsLeft.failed is
  left_still (IsLeft.memory is) q = IsLeft.memory is
  left_still (IsLeft.full s r first last is over) q = IsLeft.full s r first (goes_still device last q) is over
  left_still (IsLeft.down f is) q = IsLeft.down f is

  gives_more : {a m b : DbValue D} {x : ℕ} {e : DbError} → Goes device a m [] → fault_of m ≡ fault_of a
      → GivesUp device m b x e → GivesUp device a b x e
  gives_more p same (inl (q, why)) = inl (goes_still device p q, left_more p same why)
  gives_more p same (inr (r, is, q)) = inr (r, is, goes_on device p q)

  -- the device has failed
  gives_failed : {a m b : DbValue D} {x : ℕ} → Goes device a m [] → GivesUp device m b x DiskFault
      → GivesUp device a b x DiskFault
  gives_failed p (inl (q, why)) = inl (goes_still device p q, IsLeft.failed refl)
  gives_failed p (inr (r, is, q)) = inr (r, is, goes_on device p q)

  -- and then nothing is logged
  pub gives_still : {a m b : DbValue D} {x : ℕ} {e : DbError} → GivesUp device a m x e → Goes device m b []
      → GivesUp device a b x e
  gives_still (inl (p, why)) q = inl (goes_still device p q, left_still why q)
  gives_still (inr (r, is, p)) q = inr (r, is, goes_still device p q)

  pub tells_still : {a m b : DbValue D} (refusal e : DbError) → TellsRefusal device a m refusal e
      → b.frames.journal ≡ m.frames.journal → TellsRefusal device a b refusal e
  tells_still refusal e (TellsRefusal.same none rests) same =
      TellsRefusal.same (none_still device none same) (λ at. same ∙ rests at)
  tells_still refusal e (TellsRefusal.failed met) same = TellsRefusal.failed (fault_still device met same)
  tells_still refusal e (TellsRefusal.memory off none) same = TellsRefusal.memory off (none_still device none same)

  -- the Abort is refused
  pub refused_tells : {a b : DbValue D} (T : Type 0) (refusal e : DbError) → (refusal ≡ DiskFault → ⊥)
      → (e ≡ DiskFault → ⊥) → (let answer : Result T DbError = Err e in FaultIsTold device a b answer)
      → TellsRefusal device a b refusal refusal
  refused_tells {a} {b} T refusal e not none told =
      let answer : Result T DbError = Err e in
      TellsRefusal.same (untold device a b answer (λ is. none (let w : e ≡ DiskFault = cc in w)) told)
      (λ at. absurd (not at))

  -- and memory ran out, or not
  pub memory_tells : {a b : DbValue D} (T : Type 0) (refusal e : DbError) → (refusal ≡ DiskFault → ⊥) → e ≡ OutOfMemory
      → (let answer : Result T DbError = Err e in FaultIsTold device a b answer) → TellsRefusal device a b refusal e
  memory_tells {a} {b} T refusal e not is told =
      subst (TellsRefusal device a b refusal) (sym is)
      (TellsRefusal.memory not
      (subst (λ (w : DbError). let answer : Result T DbError = Err w in FaultIsTold device a b answer) is told))

  pub abort_left : {a b : DbValue D} (x : ℕ) (e answer : DbError) → Goes device a b []
      → CannotLog a kind.Abort x e → (e ≡ DiskFault → ⊥) → (e ≡ OutOfMemory → ⊥) → IsLeft device a b x answer
  abort_left x (Down f) answer path why off some = IsLeft.down f why
  abort_left {a} x LogFull answer path why off some =
      IsLeft.full a (plain_record a kind.Abort x) Goes.stays path (abort_is a x) why.1
  abort_left x XidsSpent answer path why off some = absurd (let w = why.0 in let z : ⊥ = cc in z)
  abort_left x DiskFault answer path why off some = absurd (off refl)
  abort_left x OutOfMemory answer path why off some = absurd (some refl)
  abort_left x _ answer path why off some = absurd why

  -- a fault was met, or none
  pub told_either : (T : Type 0) (a b : DbValue D) (e : DbError)
      → (let answer : Result T DbError = Err e in FaultIsTold device a b answer)
      → ((e ≡ DiskFault) × MetFault device a b) ⊎ ((e ≢ DiskFault) × MetNoFault device a b)
  told_either T a b DiskFault told = inl (refl, told)
  told_either T a b NoDocument told = inr (λ at. let z : ⊥ = cc in z, told)
  told_either T a b (Conflict x) told = inr (λ at. let z : ⊥ = cc in z, told)
  told_either T a b StoreFull told = inr (λ at. let z : ⊥ = cc in z, told)
  told_either T a b LogFull told = inr (λ at. let z : ⊥ = cc in z, told)
  told_either T a b XidsSpent told = inr (λ at. let z : ⊥ = cc in z, told)
  told_either T a b (Down f) told = inr (λ at. let z : ⊥ = cc in z, told)
  told_either T a b (BadPage p) told = inr (λ at. let z : ⊥ = cc in z, told)
  told_either T a b OutOfMemory told = inr (λ at. let z : ⊥ = cc in z, told)

  -- ── its Commit is refused ──

  module _ (a m b : DbValue D) (x : ℕ) (s : LogsNothing device a m) (up : IsUp a) where
    not_ended : (error e : DbError) → CannotLog a (kind.Commit 0) x error → (error ≡ DiskFault → ⊥)
        → GivesUp device a b x e → (e ≡ error) ⊎ (e ≡ DiskFault) → IsNotEnded device a b x e
    not_ended error e why not gives (inr is) =
        subst (IsNotEnded device a b x) (sym is) (IsNotEnded.failed (subst (GivesUp device a b x) is gives))
    not_ended (Down f) e why not gives (inl is) = absurd (let z : ⊥ = cc in z)
    not_ended LogFull e why not gives (inl is) = subst (IsNotEnded device a b x) (sym is)
        (IsNotEnded.full (a, Goes.stays, (plain_record a (kind.Commit 0) x, commit_is a x 0, why.1))
        (subst (GivesUp device a b x) is gives))
    not_ended OutOfMemory e why not gives (inl is) =
        subst (IsNotEnded device a b x) (sym is) (IsNotEnded.memory (subst (GivesUp device a b x) is gives))
    not_ended XidsSpent e why not gives (inl is) = absurd (let w = why.0 in let z : ⊥ = cc in z)
    not_ended DiskFault e why not gives (inl is) = absurd (not refl)
    not_ended _ e why not gives (inl is) = absurd why

    end_other : (T : Type 0) (error e : DbError) → (error ≡ DiskFault → ⊥) → CannotLog a (kind.Commit 0) x error
        → MetNoFault device a m → GivesUp device m b x e → TellsRefusal device m b error e
        → IsNotEnded device a b x e × (let answer : Result T DbError = Err e in FaultIsTold device a b answer)
    end_other T error e not why met gives (TellsRefusal.same none rests) =
        let answer : Result T DbError = Err error in (
          not_ended error error why not (gives_more (one_nothing device s) met.down gives) (inl refl),
          told_none device answer (λ at. not (let w : error ≡ DiskFault = cc in w)) (none_in_turn device met none),
        )
    end_other T error e not why met gives (TellsRefusal.failed fault) = (
      not_ended error DiskFault why not (gives_more (one_nothing device s) met.down gives) (inr refl),
      fault_in_turn device s.goes_on met fault,
    )
    end_other T error e not why met gives (TellsRefusal.memory off none) =
        (IsNotEnded.memory (gives_more (one_nothing device s) met.down gives), none_in_turn device met none)

    pub end_refused : (T U : Type 0) (error e : DbError) → CannotLog a (kind.Commit 0) x error
        → (let answer : Result U DbError = Err error in FaultIsTold device a m answer) → GivesUp device m b x e
        → TellsRefusal device m b error e
        → IsNotEnded device a b x e × (let answer : Result T DbError = Err e in FaultIsTold device a b answer)
    end_refused T U DiskFault e why told gives (TellsRefusal.same none rests) =
        (IsNotEnded.failed (gives_failed (one_nothing device s) gives), fault_still device told (rests refl))
    end_refused T U DiskFault e why told gives (TellsRefusal.failed met) =
        absurd (let down = told.down in let was = met.up in let z : ⊥ = cc in z)
    end_refused T U DiskFault e why told gives (TellsRefusal.memory off none) = absurd (off refl)
    end_refused T U LogFull e why told gives tells =
        end_other T LogFull e (λ at. let z : ⊥ = cc in z) why told gives tells
    end_refused T U XidsSpent e why told gives tells =
        end_other T XidsSpent e (λ at. let z : ⊥ = cc in z) why told gives tells
    end_refused T U OutOfMemory e why told gives tells =
        end_other T OutOfMemory e (λ at. let z : ⊥ = cc in z) why told gives tells
    end_refused T U (Down f) e why told gives tells =
        end_other T (Down f) e (λ at. let z : ⊥ = cc in z) why told gives tells
    end_refused T U _ e why told gives tells = absurd why

  -- ── its Commit is flushed ──

  -- The log is flushed, and then the snapshot given up.
  module _ (m f b : DbValue D) (flush : LogsNothing device m f) (same : b.frames.journal ≡ f.frames.journal) where
    pub flushed_all : (pass pass' : Pass) → IsUp m → MetNoFault device m f → waiting f.frames.journal.wal ≡ []
        → flushed_of f ≡ length (state_of m).deleted → pass.shown ≡ flushed_of f → pass.shown ≤ pass'.shown
        → pass'.shown ≤ flushed_of b
        → IsUp b × IsFlushed b × (flushed_of b ≡ length (state_of b).deleted) × (pass'.shown ≡ flushed_of b)
    flushed_all pass pass' up none waits done shown rises most = (
      ap (λ (j : JournalValue D). down_of j.wal) same ∙ none.down ∙ up,
      ap (λ (j : JournalValue D). waiting j.wal) same ∙ waits,
      ap (λ (j : JournalValue D). j.flushed) same ∙ done
          ∙ ap (λ (v : StateValue). length v.deleted)
          (sym (ap (λ (j : JournalValue D). j.state) same ∙ (flush.state).state)),
      omega (arith, shown, rises, most, ap (λ (j : JournalValue D). j.flushed) same),
    )

-- ── answers ──

-- what holds of each answer holds of Ok
pub on_each : {T E : Type 0} (P : Type 0) (r : Result T E) → P → OnOk r P
on_each P (Ok x) p = p
on_each P (Err e) p = tt

-- of a refusal no Ok is told
pub on_none : {T E : Type 0} (P : Type 0) (r : Result T E) (e : E) → r ≡ Err e → OnOk r P
on_none {T} {E} P r e is = subst (λ (q : Result T E). OnOk q P) (sym is) tt

pub at_ok : {T E P : Type 0} (r : Result T E) (x : T) → r ≡ Ok x → OnOk r P → P
at_ok {T} {E} {P} r x is told = subst (λ (q : Result T E). OnOk q P) is told
