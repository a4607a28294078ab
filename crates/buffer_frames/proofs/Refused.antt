-- The refusals of a log, as a journal answers them.
use Rattle.std.proofs.Common.{◌≡◌, ◌⊎◌, ◌↔◌, inl, inr, ℕ, refl, sym, ◌∙◌, ap, subst}
use Rattle.std.specs.Prelude.{Option, Some, None, Result, Ok, Err, IsErrOf, OnErr, IfErr}
use Rattle.wal.specs.Waiting.{waiting, end_of, down_of}
use Rattle.wal.specs.declared.log.Wal.{Wal}
use Rattle.wal.specs.Causes as wal_causes
use Rattle.wal.specs.declared.error.FlushError.{FlushError}
use Rattle.wal.specs.declared.error.FlushError.TheVariants as errors
use Rattle.wal.specs.declared.error.AppendError.{AppendError}
use Rattle.wal.specs.declared.error.AppendError.TheVariants as appending
use Rattle.buffer_frames.specs.Inner.Refusals.{append_refusal, flush_refusal}
use Rattle.buffer_frames.specs.declared.log_error.LogError.{LogError}
use Rattle.buffer_frames.specs.declared.log_error.LogError.TheVariants.{DiskFault, LogFull, Down, OutOfMemory}

-- a log that answers Ok is up
pub up_at_ok : {T : Type 0} (o : Option ℕ) (r : Result T FlushError) (x : T)
    → ((f : ℕ) → (r ≡ Err (errors.Down f)) ↔ (o ≡ Some f)) → r ≡ Ok x → o ≡ None
up_at_ok None r x down ok = refl
up_at_ok (Some f) r x down ok = let is : r ≡ Err (errors.Down f) = (down f).1 refl in absurd (let e : ⊥ = cc in e)

-- a journal is down where its log is
pub down_by : {T U : Type 0} (e : FlushError) (e' : LogError) (o : Option ℕ) (r : Result T FlushError) → r ≡ Err e
    → e' ≡ flush_refusal e → ((f : ℕ) → (r ≡ Err (errors.Down f)) ↔ (o ≡ Some f))
    → (f : ℕ) → (let s : Result U LogError = Err e' in s ≡ Err (Down f)) ↔ (o ≡ Some f)
down_by (errors.Down g) e' o r is same down f = (
  λ h. (down f).0 (let x : r ≡ Err (errors.Down f) = cc in x),
  λ h. let x : r ≡ Err (errors.Down f) = (down f).1 h in cc,
)
down_by errors.DiskFault e' o r is same down f = (
  λ h. absurd (let x : ⊥ = cc in x),
  λ h. let x : r ≡ Err (errors.Down f) = (down f).1 h in absurd (let y : ⊥ = cc in y),
)

-- a journal answers DiskFault where its log does
pub fault_back : {T U : Type 0} (e : FlushError) (e' : LogError) (r : Result T FlushError) → r ≡ Err e
    → e' ≡ flush_refusal e → IsErrOf (let s : Result U LogError = Err e' in s) DiskFault → IsErrOf r errors.DiskFault
fault_back (errors.Down g) e' r is same h = absurd (let x : ⊥ = cc in x)
fault_back errors.DiskFault e' r is same h = is

-- where the log rests as it was, no fault is answered
pub rests_no_fault : {T : Type 0} (r : Result T FlushError) (n : ℕ) (old new : Option ℕ) → new ≡ old
    → wal_causes.GoesDown r n old new → ((f : ℕ) → (r ≡ Err (errors.Down f)) ↔ (old ≡ Some f))
    → IsErrOf r errors.DiskFault → ⊥
rests_no_fault r n old new same goes down fault =
    let is : new ≡ Some n = subst (λ x. wal_causes.GoesDown x n old new) fault goes in
    let again : r ≡ Err (errors.Down n) = (down n).1 (sym same ∙ is) in
    cc

-- an append that was refused
pub record IsKept (wal wal' : Wal) : Type 0 where
  pub waits : waiting wal' ≡ waiting wal
  pub end : end_of wal' ≡ end_of wal
  pub down : down_of wal' ≡ down_of wal

pub append_refused : {T : Type 0} (wal wal' : Wal) (r : Result T AppendError) (e : AppendError) → r ≡ Err e
    → OnErr r (waiting wal' ≡ waiting wal) → end_of wal' ≡ end_of wal → down_of wal' ≡ down_of wal → IsKept wal wal'
append_refused {T} wal wal' r e is waits end down =
    let kept : waiting wal' ≡ waiting wal = let k : (let x : Result T AppendError = Err e in
    OnErr x (waiting wal' ≡ waiting wal)) = subst (λ z. OnErr z (waiting wal' ≡ waiting wal)) is waits in k in
    record { waits = kept; end = end; down = down }

-- a log that is up refuses an entry since it is full, or for want of memory
pub append_error : {T : Type 0} (r : Result T AppendError) (e : AppendError) (o : Option ℕ)
    → r ≡ Err e → o ≡ None → ((f : ℕ) → (r ≡ Err (appending.Down f)) ↔ (o ≡ Some f))
    → (append_refusal e ≡ LogFull) ⊎ (append_refusal e ≡ OutOfMemory)
append_error r appending.LogFull o is up down = inl refl
append_error r appending.OutOfMemory o is up down = inr refl
append_error r (appending.Down f) o is up down = absurd (let at : o ≡ Some f = (down f).0 is in let x : ⊥ = cc in x)

-- a flush that finds the log up is refused for a fault alone
pub up_fault : (r : Result (Unit {0}) LogError) (o : Option ℕ) → o ≡ None → IfErr r (λ e. (e ≡ DiskFault)
    ⊎ ((f : ℕ) × (e ≡ Down f))) → ((f : ℕ) → (r ≡ Err (Down f)) ↔ (o ≡ Some f)) → IfErr r (λ e. e ≡ DiskFault)
up_fault (Ok x) o up error down = tt
up_fault (Err e) o up (inl fault) down = fault
up_fault (Err e) o up (inr (f, is)) down = absurd (let at : o ≡ Some f =
    (down f).0 (ap (λ (x : LogError). let r : Result (Unit {0}) LogError = Err x in r) is) in let x : ⊥ = cc in x)
