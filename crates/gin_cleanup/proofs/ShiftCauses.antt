-- Why a page of the list is not shifted.
use Rattle.std.proofs.Common.{◌≡◌, ◌↔◌, ◌≤◌, ℕ, length, subst, inr}
use Rattle.std.proofs.Common.{Result, Err}
use Rattle.std.specs.Prelude.{Some}
use Rattle.disk_trait.specs.declared.device.Disk.{Ghosts as Disk}
use Rattle.wal.specs.Waiting.{limit_of, length_with, down_of}
use Rattle.page_types.specs.declared.record.Kind.TheVariants as kind
use Rattle.core_state.specs.Allowed.{Step}
use Rattle.buffer_frames.specs.Drawing.{HasEncoding}
use Rattle.buffer_frames.specs.Journals.{logged_bytes, next_record}
use Rattle.buffer_frames.specs.LogCauses.{WriteHasCause, LogFullWhere}
use Rattle.buffer_frames.specs.Frames.{FramesValue}
use Rattle.buffer_frames.specs.declared.pass.Pass.{Pass}
use Rattle.buffer_frames.specs.declared.log_error.LogError.{LogError}
use Rattle.buffer_frames.specs.declared.log_error.LogError.TheVariants as logs
use Rattle.gin_place.specs.Causes.{CannotUse, CannotHold}
use Rattle.gin_place.specs.Inner.Refusals.{log_refusal}
use Rattle.gin_place.specs.declared.error.PlaceError.{PlaceError}
use Rattle.gin_place.proofs.Causing.{Later, weaker, hold_why, hold_later}
use Rattle.gin_cleanup.specs.Going.{IsRowPage, IsBadList, IsCause}
use Rattle.gin_cleanup.proofs.Causes.{why_cause}

module _ {D : Type 0} (device : Disk D) (f : FramesValue D) (p : Pass) where
  -- the first page is not held
  pub first_cause : (page : ℕ) → (CannotUse f IsRowPage page → IsBadList device f p page) → (l m : FramesValue D)
      (e : PlaceError) → Later device l m → CannotHold device page l e f p → IsCause device m e f p
  first_cause page bad l m e le c =
      why_cause device m e f p
      (hold_why device (IsBadList device) page m e f p
      (λ cannot. bad (weaker f IsRowPage page cannot)) (hold_later device page l m e le f p c))

  -- the Shift is not logged
  pub shift_cause : (g : FramesValue D) (step : Step) {T : Type 0} (r : Result T LogError) (w : LogError)
      → step.kind ≡ kind.Shift → HasEncoding step → length step.after ≤ 2 → r ≡ Err w
      → LogFullWhere (limit_of f.journal.wal)
      (length_with f.journal.wal (logged_bytes f.journal (next_record f.journal step))) r
      → ((n : ℕ) → (r ≡ Err (logs.Down n)) ↔ (down_of f.journal.wal ≡ Some n))
      → WriteHasCause device f.journal.disk g.journal.disk r
      → IsCause device g (log_refusal w) f p
  shift_cause g step r logs.DiskFault shift encoded few is full down cause = cause.fault is
  shift_cause g step {T} r logs.LogFull shift encoded few is full down cause =
      let over = subst (LogFullWhere {T = T} (limit_of f.journal.wal)
      (length_with f.journal.wal (logged_bytes f.journal (next_record f.journal step)))) is full in
      inr (record { step = step; shift = shift; encoded = encoded; pages = few; over = over })
  shift_cause g step r (logs.Down n) shift encoded few is full down cause = (down n).0 is
  shift_cause g step r logs.XidsSpent shift encoded few is full down cause = tt
  shift_cause g step r logs.OutOfMemory shift encoded few is full down cause = tt
