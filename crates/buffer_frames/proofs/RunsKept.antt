-- What a call of the journal leaves as it was, or no less.
use Rattle.std.proofs.Common.{◌≡◌, ◌⊎◌, ⊎_elim, ◌≤◌, ℕ, List, refl, sym, ap, subst}
use Rattle.std.specs.Prelude.{Option, Some, None}
use Rattle.disk_trait.specs.Files.{Files}
use Rattle.disk_trait.specs.Runs.{LeavesOnly}
use Rattle.disk_trait.specs.declared.device.Disk.{Ghosts as Disk}
use Rattle.wal.specs.Waiting.{limit_of, down_of}
use Rattle.wal.specs.Pages.{KeepsPages}
use Rattle.core_state.specs.Log.{Log}
use Rattle.snap_pins.specs.declared.Pin.{Pin as PinInUse}
use Rattle.buffer_frames.specs.NoStore.{CountedAreOne}
use Rattle.buffer_frames.specs.Beginnings.{KeepsSince, HasSince}
use Rattle.buffer_frames.specs.Journals.{JournalValue, IsJournalOf, CountsEither}
use Rattle.buffer_frames.specs.Frames.{RunsOn}
use Rattle.buffer_frames.specs.declared.home.Home.{Home}
use Rattle.buffer_frames.proofs.Beginning.{stays_since}
use Rattle.buffer_frames.proofs.FramesKept.{framed}

module _ {D : Type 0} (device : Disk D) (one : CountedAreOne) (j j' : JournalValue D) where
  -- what the device is left as
  abbrev pub Moments : Type 0
  Moments =
      device.tells → (R : Log) (s : IsJournalOf device j R)
      → (j'.disk ≡ j.disk) ⊎ LeavesOnly device j.disk j'.disk (CountsEither device j.disk s.counted R)

  -- what is there since a clock value stays there
  keeps_since : ((f : ℕ) → down_of j.wal ≡ Some f → j' ≡ j) → Moments
      → KeepsSince device j j'
  keeps_since rests moments t found R H k c commits early has = go (down_of j.wal) refl
    where
      still : j'.disk ≡ j.disk → HasSince device c commits j'.disk
      still same = subst (HasSince device c commits) (sym same) has

      go : (o : Option ℕ) → down_of j.wal ≡ o → HasSince device c commits j'.disk
      go (Some f) down = still (ap (λ (k : JournalValue D). k.disk) (rests f down))
      go None up =
          ⊎_elim still (λ left. stays_since device one j j' found R H k t up left c commits early has)
          (moments t R k.stands)

  -- a crash left no more at an earlier moment
  left_before : (R : Log) → IsJournalOf device j R → Moments → device.tells → (m : ℕ) (c : Files)
      → m ≤ device.clock j.disk → device.image j'.disk m c → device.image j.disk m c
  left_before R s moments t m c early left =
      ⊎_elim (λ same. subst (λ (d : D). device.image d m c) same left) (λ run. run.before m c early left)
      (moments t R s)

  pub runs_on : (R : Log) → IsJournalOf device j R → (pins : List (Option PinInUse)) (homes homes' : List Home)
      → ((f : ℕ) → down_of j.wal ≡ Some f → j' ≡ j) → Moments → limit_of j'.wal ≡ limit_of j.wal
      → j'.opened ≡ j.opened → j.flushed ≤ j'.flushed → (device.tells → KeepsPages device j.disk j'.disk)
      → (down_of j'.wal ≡ None → down_of j.wal ≡ None)
      → RunsOn device (framed j pins homes) (framed j' pins homes')
  runs_on R s pins homes homes' rests moments limit opened more pages was_up = record {
    limit = limit;
    opened = opened;
    flushed = more;
    before = left_before R s moments;
    since = keeps_since rests moments;
    pages = pages;
    up = was_up;
  }
