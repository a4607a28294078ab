-- Why a page is not held, or a step not logged, in a sweep.
use Rattle.std.proofs.Common.{◌≡◌, ◌≤◌, ℕ, refl, sym, ap, subst, inl, inr, arith}
use Rattle.std.specs.Prelude.{Option, Some, None, ⊤}
use Rattle.std.specs.Option.{unwrap_or}
use Rattle.disk_trait.specs.declared.device.Disk.{Ghosts as Disk}
use Rattle.page_types.specs.declared.page.Page.{Page}
use Rattle.core_state.specs.PageChoice.{IsLeast, AreBelow}
use Rattle.buffer_frames.specs.Frames.{FramesValue}
use Rattle.buffer_frames.specs.declared.pass.Pass.{Pass}
use Rattle.gin_place.specs.Causes.{CannotUse, CannotHold}
use Rattle.gin_place.specs.declared.error.PlaceError.{PlaceError}
use Rattle.gin_place.specs.declared.error.PlaceError.TheVariants.{StoreFull, LogFull, DiskFault, Down, BadPage}
use Rattle.gin_place.specs.declared.error.PlaceError.TheVariants.{OutOfMemory}
use Rattle.gin_vacuum.specs.Stepping.{IsCause, IsSpent}
use Rattle.gin_vacuum.specs.Inner.Logging.{CannotLog}

module _ {D : Type 0} (device : Disk D) (Bad : FramesValue D → ℕ → Type 0) where
  pub hold_cause : (page : ℕ) (l : FramesValue D) (e : PlaceError) (f : FramesValue D) (p : Pass)
      → (CannotUse f (λ (c : Page). ⊤) page → Bad f page) → CannotHold device page l e f p → IsCause device Bad l e f p
  hold_cause page l StoreFull f p bad c = c
  hold_cause page l LogFull f p bad c = absurd c
  hold_cause page l DiskFault f p bad c = c
  hold_cause page l (Down n) f p bad c = c
  hold_cause page l (BadPage q) f p bad c =
      subst (Bad f) (sym c.0) (bad (subst (CannotUse f (λ (x : Page). ⊤)) c.0 c.1))
  hold_cause page l OutOfMemory f p bad c = tt

  pub log_cause : (l : FramesValue D) (e : PlaceError) (f : FramesValue D) (p : Pass) → CannotLog device l e f p
      → IsCause device Bad l e f p
  log_cause l StoreFull f p c = c
  log_cause l LogFull f p c = c
  log_cause l DiskFault f p c = c
  log_cause l (Down n) f p c = c
  log_cause l (BadPage q) f p c = absurd c
  log_cause l OutOfMemory f p c = tt

  pub cause_as : (Bad' : FramesValue D → ℕ → Type 0) (l : FramesValue D) (e : PlaceError) (f : FramesValue D) (p : Pass)
      → ((q : ℕ) → Bad f q → Bad' f q) → IsCause device Bad l e f p → IsCause device Bad' l e f p
  cause_as Bad' l StoreFull f p to c = c
  cause_as Bad' l LogFull f p to c = c
  cause_as Bad' l DiskFault f p to c = c
  cause_as Bad' l (Down n) f p to c = c
  cause_as Bad' l (BadPage q) f p to c = to q c
  cause_as Bad' l OutOfMemory f p to c = tt

-- where none more may be
pub spent : {D : Type 0} (o : Option ℕ) (f : FramesValue D) (extent : ℕ) → IsLeast (AreBelow f.journal.state) extent
    → unwrap_or o extent ≡ 0 → IsSpent o f
spent None f extent least e = inr (refl, subst (IsLeast (AreBelow f.journal.state)) e least)
spent (Some n) f extent least e = inl (ap Some e)

-- pages that were given back since leave a cause as it was
pub cause_later : {D : Type 0} (device : Disk D) (Bad : FramesValue D → ℕ → Type 0) (l m : FramesValue D)
    (e : PlaceError)
    (f : FramesValue D) (p : Pass)
    → device.fault_count l.journal.disk ≤ device.fault_count m.journal.disk → IsCause device Bad l e f p
    → IsCause device Bad m e f p
cause_later device Bad l m StoreFull f p later c = c
cause_later device Bad l m LogFull f p later c = c
cause_later device Bad l m DiskFault f p later c = omega (arith, c, later)
cause_later device Bad l m (Down n) f p later c = c
cause_later device Bad l m (BadPage q) f p later c = c
cause_later device Bad l m OutOfMemory f p later c = tt
