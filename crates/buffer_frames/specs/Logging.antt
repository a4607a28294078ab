-- A record that is logged while the log is up and little waits.
use Rattle.std.specs.Prelude.{◌≡◌, ◌++◌, false}
use Rattle.wal.specs.Waiting.{waiting, end_of, limit_of, down_of}
use Rattle.page_types.specs.declared.record.Record.{Record}
use Rattle.core_state.specs.States.{step_of}
use Rattle.buffer_frames.specs.Journals.{JournalValue, after_owed, logged_bytes, work_after}

-- nothing that counts has changed
pub record IsSameJournal {D : Type 0} (old new : JournalValue D) : Type 0 where
  pub disk : new.disk ≡ old.disk
  pub state : new.state ≡ old.state
  pub flushed : new.flushed ≡ old.flushed
  pub owes : new.owes ≡ old.owes
  pub waits : waiting new.wal ≡ waiting old.wal
  pub end : end_of new.wal ≡ end_of old.wal
  pub limit : limit_of new.wal ≡ limit_of old.wal
  pub down : down_of new.wal ≡ down_of old.wal
  pub work : new.work ≡ old.work

-- the record waits after what waited
pub record HasLogged {D : Type 0} (old new : JournalValue D) (r : Record) : Type 0 where
  pub disk : new.disk ≡ old.disk
  pub state : new.state ≡ step_of r (after_owed old.owes old.state)
  pub flushed : new.flushed ≡ old.flushed
  pub owes : new.owes ≡ false
  pub work : new.work ≡ work_after r.kind r.number old.work
  pub waits : waiting new.wal ≡ waiting old.wal ++ logged_bytes old r
  pub end : end_of new.wal ≡ end_of old.wal
  pub limit : limit_of new.wal ≡ limit_of old.wal
  pub down : down_of new.wal ≡ down_of old.wal
