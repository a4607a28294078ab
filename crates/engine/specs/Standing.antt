-- What a store stands for, and how it and its device go on.
use Rattle.std.specs.Prelude.{◌≡◌, ℕ, ◌<◌, ◌≤◌, List, ◌++◌}
use Rattle.disk_trait.specs.Files.{Files}
use Rattle.disk_trait.specs.declared.device.Disk.{Ghosts as Disk}
use Rattle.wal.specs.Pages.{KeepsPages}
use Rattle.page_types.specs.Numbers.{page_limit}
use Rattle.core_state.specs.Log.{Log, In}
use Rattle.core_state.specs.States.{heap_pages}
use Rattle.buffer_frames.specs.Frames.{Stands}
use Rattle.buffer_frames.specs.Beginnings.{BeginsBy, HasSince}
use Rattle.buffer_frames.specs.Opens.{OpensTo}
use Rattle.engine.specs.Finding.{Commit, History, IsLawful}
use Rattle.engine.specs.Db.{DbValue, disk_of, opened_of, state_of, IsUp, flushed_of}

module _ {D : Type 0} (device : Disk D) where
  -- What the device held as it was opened opens to the history that was found. The store's log is a
  -- legal one with the history H, which goes on from that one. What a crash leaves at a moment since then
  -- opens to a history between these two: one that goes on from what was found, and is a beginning of H.
  -- At an earlier moment a crash left no more than it did at the opening. The pages that a head is tried
  -- on are heap pages of the log, and each page that the store may have has a number.
  pub record StandsFor (found : History) (s : DbValue D) (H : History) : Type 0 where
    pub entry : OpensTo (device.seen (opened_of s)) found
    pub log : Log
    pub stands : Stands device s.frames log
    pub begins : BeginsBy device s.frames.journal found log H
    pub heaps : (p : ℕ) → In p (heap_pages (state_of s)) → In p (state_of s).heaps
    pub few : (state_of s).pages ≤ page_limit

  -- the history has these commits more
  abbrev pub HasGrown : DbValue D → DbValue D → List Commit → Type 0
  HasGrown old new more = (found H : History) → StandsFor found old H → StandsFor found new (H ++ more)

  -- the history that a store stands for is a lawful one
  abbrev pub HistoriesAreLawful : Type 0
  HistoriesAreLawful = (found H : History) (s : DbValue D) → StandsFor found s H → IsLawful H

  -- from now on a crash leaves what has so many commits
  abbrev pub IsKept : DbValue D → ℕ → Type 0
  IsKept s commits = HasSince device (device.clock (disk_of s)) commits (disk_of s)

  -- What a call leaves of the device, and of what is flushed: the clock and the counts don't fall, and
  -- no fewer commits are flushed. At an earlier moment a crash left what it leaves now, and commits
  -- that it left from a moment on it leaves still. It leaves pages that it could have left before. While
  -- the store is up it leaves all that are flushed.
  pub record GoesOn (old new : DbValue D) : Type 0 where
    pub opened : opened_of new ≡ opened_of old
    pub pending : new.pending ≡ old.pending
    pub time : device.clock (disk_of old) ≤ device.clock (disk_of new)
    pub faults : device.fault_count (disk_of old) ≤ device.fault_count (disk_of new)
    pub writes : device.write_fault_count (disk_of old) ≤ device.write_fault_count (disk_of new)
    pub flushed : flushed_of old ≤ flushed_of new
    pub before : device.tells → (m : ℕ) (c : Files) → m < device.clock (disk_of old)
        → device.image (disk_of new) m c → device.image (disk_of old) m c
    pub since : device.tells → (found H : History) → StandsFor found old H → (clock commits : ℕ)
        → clock ≤ device.clock (disk_of old) → HasSince device clock commits (disk_of old)
        → HasSince device clock commits (disk_of new)
    pub pages : device.tells → KeepsPages device (disk_of old) (disk_of new)
    pub kept : device.tells → (found H : History) → StandsFor found new H → IsUp new
        → IsKept new (flushed_of new)
