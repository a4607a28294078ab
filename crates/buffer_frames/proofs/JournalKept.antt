-- Calls that leave the journal as it is.
use Rattle.std.proofs.Common.{◌≡◌, ℕ, List, sym, ap, subst, ◌∙◌, inl, arith}
use Rattle.std.specs.Prelude.{Result, IsErrOf}
use Rattle.disk_trait.specs.declared.device.Disk.{Ghosts as Disk}
use Rattle.wal.specs.Waiting.{limit_of, down_of}
use Rattle.wal.proofs.Paging.{kept_same}
use Rattle.buffer_frames.specs.Beginnings.{KeepsSince, BeginsOn}
use Rattle.buffer_frames.specs.Frames.{FramesValue, RunsOn, KeepsState, KeepsOthers}
use Rattle.buffer_frames.specs.Homes.{home_at}
use Rattle.buffer_frames.specs.Journals.{JournalValue}
use Rattle.buffer_frames.specs.LogCauses.{IsCalm, HoldHasCause}
use Rattle.buffer_frames.specs.declared.frame_error.FrameError.{FrameError}
use Rattle.buffer_frames.specs.declared.frame_error.FrameError.TheVariants.{DiskFault}
use Rattle.buffer_frames.specs.declared.home.Home.{Home}

pub state_kept : {D : Type 0} (f f' : FramesValue D) → f'.journal ≡ f.journal → KeepsState f f'
state_kept {D} f f' e = record {
  state = ap (λ (j : JournalValue D). j.state) e;
  owes = ap (λ (j : JournalValue D). j.owes) e;
  work = ap (λ (j : JournalValue D). j.work) e;
}

pub others_kept : {D : Type 0} (f f' : FramesValue D) (ps : List ℕ) → f'.homes ≡ f.homes → KeepsOthers f f' ps
others_kept {D} f f' ps e p off = ap (λ (hs : List Home). home_at hs p) e

module _ {D : Type 0} (device : Disk D) where
  pub runs_kept : (f f' : FramesValue D) → f'.journal ≡ f.journal → RunsOn device f f'
  runs_kept f f' e = record {
    limit = ap (λ (j : JournalValue D). limit_of j.wal) e;
    opened = ap (λ (j : JournalValue D). j.opened) e;
    flushed = omega (arith, ap (λ (j : JournalValue D). j.flushed) e);
    before = λ told m c early left.
        subst (λ (j : JournalValue D). device.image j.disk m c) e left;
    since = subst (λ (j : JournalValue D). KeepsSince device f.journal j) (sym e)
        (λ told found R H begins c commits before has. has);
    pages = λ told. kept_same device f.journal.disk f'.journal.disk (ap (λ (j : JournalValue D). j.disk) e);
    up = λ up. sym (ap (λ (j : JournalValue D). down_of j.wal) e) ∙ up;
  }

  pub begins_kept : (j j' : JournalValue D) → j' ≡ j → BeginsOn device j j'
  begins_kept j j' e = subst (λ (i : JournalValue D). BeginsOn device j i) (sym e) (λ told found R H begins. begins)

  pub calm_kept : (j j' : JournalValue D) → j' ≡ j → IsCalm device j j'
  calm_kept j j' e = record {
    down = ap (λ (i : JournalValue D). down_of i.wal) e;
    time = omega (arith, ap (λ (i : JournalValue D). device.clock i.disk) e);
    later = omega (arith, ap (λ (i : JournalValue D). device.fault_count i.disk) e);
    no_write = ap (λ (i : JournalValue D). device.write_fault_count i.disk) e;
  }

  -- a hold without a call of the device
  pub cause_kept : {T : Type 0} (j j' : JournalValue D) (result : Result T FrameError) → j' ≡ j
      → (IsErrOf result DiskFault → ⊥) → HoldHasCause device j j' result
  cause_kept j j' result e none = record {
    fault = λ is. absurd (none is);
    either = inl (calm_kept j j' e, none);
  }
