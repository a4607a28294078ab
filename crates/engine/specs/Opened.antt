-- A device on which a store was opened.
use Rattle.std.specs.Prelude.{◌≡◌, ℕ, ◌<◌, ◌≤◌, length}
use Rattle.disk_trait.specs.Files.{Files}
use Rattle.disk_trait.specs.Device.{last_count}
use Rattle.disk_trait.specs.Runs.{images_now}
use Rattle.disk_trait.specs.declared.device.Disk.{Ghosts as Disk}
use Rattle.wal.specs.Waiting.{limit_of}
pub use Rattle.core_state.specs.declared.settings.Settings.{Settings}
use Rattle.buffer_frames.specs.declared.pass.Pass.{Pass}
use Rattle.engine.specs.Opening.{OpensTo, StartedFrom}
use Rattle.engine.specs.Finding.{History}
use Rattle.engine.specs.Standing.{StandsFor, IsKept}
use Rattle.engine.specs.Db.{DbValue, disk_of, opened_of, state_of, IsUp, flushed_of}

-- the store has the limits of the settings
pub record HasLimitsOf {D : Type 0} (settings : Settings) (s : DbValue D) : Type 0 where
  pub log : limit_of s.frames.journal.wal ≡ settings.log_limit
  pub xids : (state_of s).xid_limit ≡ settings.xid_limit
  pub pages : (state_of s).pages ≡ settings.pages
  pub pending : s.pending ≡ settings.pending

module _ {D : Type 0} (device : Disk D) where
  -- From c0 on a crash leaves the page file as it was read on entry; before c0 it leaves what it could
  -- leave on entry.
  pub record IsFixedSince (first : D) (c0 : ℕ) (disk : D) : Type 0 where
    pub began : (device.clock first ≤ c0) × (c0 ≤ device.clock disk)
    pub early : (m : ℕ) (c : Files) → device.clock first ≤ m → m < c0 → device.image disk m c
        → images_now device first c
    pub pages : (m : ℕ) (c : Files) → c0 ≤ m → m ≤ device.clock disk → device.image disk m c
        → c.pages ≡ (device.seen first).pages

  -- The store stands for the history that the device on entry opened to. All its commits are flushed,
  -- and from c0 on a crash leaves what opens to it.
  pub record IsLawfulSince (first : D) (c0 : ℕ) (s : DbValue D) (found : History) : Type 0 where
    pub entry : OpensTo (device.seen first) found
    pub stands : StandsFor device found s found
    pub flushed : flushed_of s ≡ length found
    pub kept : IsKept device s (length found)
    pub late : (m : ℕ) (c : Files) → c0 ≤ m → m ≤ device.clock (disk_of s)
        → device.image (disk_of s) m c → OpensTo c found

  -- how a store and its first pass are just after the opening, and how the device was on entry
  pub record OpenedAt (settings : Settings) (first : D) (c0 : ℕ) (s : DbValue D) (pass : Pass)
      : Type 0 where
    pub up : IsUp s
    pub limits : HasLimitsOf settings s
    pub opened : opened_of s ≡ disk_of s
    pub shown : pass.shown ≡ flushed_of s
    pub time : device.clock first ≤ device.clock (disk_of s)
    pub no_fall : device.fault_count first ≤ device.fault_count (disk_of s)
    pub no_write_failed : device.write_fault_count (disk_of s) ≡ device.write_fault_count first
    pub below_last : (device.fault_count first < last_count)
        × (device.write_fault_count (disk_of s) < last_count)
    pub fixed : device.tells → IsFixedSince first c0 (disk_of s)
    pub lawful : device.tells → StartedFrom device first
        → (found : History) × IsLawfulSince first c0 s found
