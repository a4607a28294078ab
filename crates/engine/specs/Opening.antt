-- What files open to, and what an opening leaves of them.
use Rattle.std.specs.Prelude.{◌≡◌, ℕ, ◌≤◌}
use Rattle.disk_trait.specs.Files.{Files}
use Rattle.disk_trait.specs.declared.device.Disk.{Ghosts as Disk}
pub use Rattle.wal.specs.Pages.{HasPagesOf, KeepsPages}
pub use Rattle.wal.specs.Reading.{IsOnlyRead}
use Rattle.wal.specs.Batches.{IsUnborn}
pub use Rattle.buffer_frames.specs.Opens.{OpensTo, StartedFrom, OpensAsBefore, OpensToOne}
pub use Rattle.buffer_frames.specs.NoStore.{IsNoStore, NoStoreIsNone}
pub use Rattle.buffer_frames.specs.declared.error.OpenFault.{OpenFault}
pub use Rattle.buffer_frames.specs.declared.error.OpenFault.TheVariants.{NotAStore, DiskFault, OutOfMemory}

-- the files of a store whose making was not begun, or was cut short
abbrev pub IsUnmade : Files → Type 0
IsUnmade files = IsUnborn files.log

-- Until pages are written to the page file: what a read gives of it stays the same, and a crash
-- leaves in it what it could leave before.
pub record HasSamePages {D : Type 0} (device : Disk D) (old new : D) : Type 0 where
  pub now : (device.seen new).pages ≡ (device.seen old).pages
  pub images : (m : ℕ) (c : Files) → device.clock old ≤ m → m ≤ device.clock new
      → device.image new m c → HasPagesOf (device.image old (device.clock old)) c
