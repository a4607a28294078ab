-- What contracts see of a store.
use Rattle.std.specs.Prelude.{◌≡◌, ℕ, Option, None, []}
use Rattle.wal.specs.Waiting.{waiting, down_of}
use Rattle.core_state.specs.States.{StateValue}
use Rattle.buffer_frames.specs.Frames.{FramesValue}
use Rattle.buffer_frames.specs.Journals.{after_owed}

-- the journal, the snapshots in use, and where each page is; and how many pages the pending list may have
-- before it is cleaned up by itself
pub record DbValue (D : Type 0) : Type 0 where
  pub frames : FramesValue D
  pub pending : ℕ

-- the device
abbrev pub disk_of : {D : Type 0} → DbValue D → D
disk_of s = s.frames.journal.disk

-- the device as it was just after the opening
abbrev pub opened_of : {D : Type 0} → DbValue D → D
opened_of s = s.frames.journal.opened

-- the device's count after the fault that brought the store down
abbrev pub fault_of : {D : Type 0} → DbValue D → Option ℕ
fault_of s = down_of s.frames.journal.wal

-- no write and no sync has failed
abbrev pub IsUp : {D : Type 0} → DbValue D → Type 0
IsUp s = fault_of s ≡ None

-- all that was put into the log is flushed: nothing waits
abbrev pub IsFlushed : {D : Type 0} → DbValue D → Type 0
IsFlushed s = waiting s.frames.journal.wal ≡ []

-- how many commits are flushed
abbrev pub flushed_of : {D : Type 0} → DbValue D → ℕ
flushed_of s = s.frames.journal.flushed

-- the state of the log
abbrev pub state_of : {D : Type 0} → DbValue D → StateValue
state_of s = s.frames.journal.state

-- the state that the next record finds: the Abort that an opening owes comes before it
abbrev pub state_then : {D : Type 0} → DbValue D → StateValue
state_then s = after_owed s.frames.journal.owes (state_of s)
