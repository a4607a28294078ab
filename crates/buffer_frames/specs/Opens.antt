-- What files open to.
use Rattle.std.specs.Prelude.{◌≡◌, ℕ, ◌≤◌, ⊤}
use Rattle.disk_trait.specs.Files.{Files}
use Rattle.disk_trait.specs.declared.device.Disk.{Ghosts as Disk}
use Rattle.page_types.specs.declared.record.Kind.{Kind}
use Rattle.page_types.specs.declared.record.Kind.TheVariants as kind
use Rattle.page_types.specs.declared.record.Record.{Record}
use Rattle.core_state.specs.Log.{Log, In}
use Rattle.core_state.specs.History.{History, IsHistory}
use Rattle.core_state.specs.Legal.{IsLegal}
use Rattle.core_state.specs.Stores.{PagesStand}
use Rattle.buffer_frames.specs.Counted.{IsCounted}

-- the kinds of record of a log that replays from its first record: it has no checkpoint
abbrev pub IsEarlyKind : Kind → Type 0
IsEarlyKind (kind.Checkpoint redo) = ⊥
IsEarlyKind _ = ⊤

-- the kinds that a session logs: no checkpoint
abbrev pub IsLoggedKind : Kind → Type 0
IsLoggedKind (kind.Checkpoint redo) = ⊥
IsLoggedKind _ = ⊤

-- A legal log with its history. It has no checkpoint.
pub record IsLogOf (R : Log) (H : History) : Type 0 where
  pub legal : IsLegal R
  pub history : IsHistory R H
  pub early : (r : Record) → In r R → IsEarlyKind r.kind

-- The records of the log count, they are a legal log with this history, and the pages are beside
-- it. Empty files, and those of a creation that was cut short, have no record.
pub record OpensTo (files : Files) (H : History) : Type 0 where
  pub records : Log
  pub counted : IsCounted files.log records
  pub log_of : IsLogOf records H
  pub pages : PagesStand records files.pages

-- a device from which a run may start: what a read gives opens, and so does all that a crash may
-- leave now
pub record StartedFrom {D : Type 0} (device : Disk D) (d : D) : Type 0 where
  pub now : (H : History) × OpensTo (device.seen d) H
  pub images : (c : Files) → device.image d (device.clock d) c → (H : History) × OpensTo c H

-- each image opens to what some image on entry opens to
pub record OpensAsBefore {D : Type 0} (device : Disk D) (old new : D) : Type 0 where
  pub images : (m : ℕ) (c : Files) → device.clock old ≤ m → m ≤ device.clock new
      → device.image new m c → (kept : History) × OpensTo c kept
      × ((d : Files) × device.image old (device.clock old) d × OpensTo d kept)

-- what files open to is one history
abbrev pub OpensToOne : Type 0
OpensToOne = (files : Files) (H H' : History) → OpensTo files H → OpensTo files H' → H ≡ H'
