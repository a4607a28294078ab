-- What the call that closes a table says of the journal that comes back.
use Rattle.std.specs.Prelude.{◌≡◌, ◌+◌, ◌≤◌, true, ℕ, [], ◌++◌, length, Some, None}
use Rattle.std.specs.declared.snapshot.Snapshot.{Snapshot}
use Rattle.core_state.specs.Log.{Log, In, commits, cut}
use Rattle.core_state.specs.Legal.{IsLegal}
use Rattle.latch_table.specs.declared.slots.Journaled.{Ghosts as Journaled}
use Rattle.latch_table.specs.declared.states.Shown.{Shown}
use Rattle.latch_table.specs.declared.states.PassState.{PassState}
use Rattle.latch_table.specs.PassStates.{IsLawful}
use Rattle.latch_table.specs.Shapes.{times}
use Rattle.latch_table.specs.Lines.{is_since}

module _ {J : Type 0} (journal : Journaled J) where
  -- what the pass has logged, and by how much the device's counts rose, is all that was since this
  -- opening; and the log is what the pass has seen, where that is no shorter than the opening's
  pub record IsAllSince (start b : J) (v : PassState J) (log : Log) : Type 0 where
    pub own : (k : ℕ) → times k v.own ≡ is_since (journal.length_of start) (length log) k
    pub faults : journal.faults start + v.faults ≡ journal.faults b
    pub write_faults : journal.write_faults start + v.write_faults ≡ journal.write_faults b
    pub seen : journal.length_of start ≤ length v.seen → log ≡ v.seen

  -- a pass with the whole room is alone: it had seen all of the log, where that was no less than the
  -- opening's
  abbrev pub HadSeenAll : PassState J → Log → Type 0
  HadSeenAll v log =
      v.room ≡ 16 → (key : Snapshot J) → v.start ≡ Some key
      → journal.length_of key.value ≤ length v.seen → log ≡ v.seen

  -- The table was closed, and the pass was the last. The journal stands for a log that goes on from
  -- what the pass has seen; no pin is left. Of a lawful store, the log is legal, and what the pass
  -- was shown to be flushed is reached.
  pub record HasClosed (b : J) (v : PassState J) : Type 0 where
    pub log : Log
    pub clock : ℕ
    pub stands : journal.stands b log
    pub length_is : journal.length_of b ≡ length log
    pub goes_on : (later : Log) × (log ≡ later ++ v.seen)
    pub within : journal.counted b ≤ length log
    pub shown : v.shown ≤ journal.flushed b
    pub counted : v.counted ≤ journal.counted b
    pub pins : (k : ℕ) → journal.pins b k ≡ None
    pub owed : journal.owes b ≡ true → v.begun ≡ []
    pub all : (key : Snapshot J) → v.start ≡ Some key → IsAllSince key.value b v log
    pub legal : IsLawful journal v → IsLegal log
    pub flushed : IsLawful journal v → journal.flushed b ≡ commits (cut (journal.counted b) log)
    pub reached : IsLawful journal v → journal.reaches b clock (journal.flushed b)
    pub shows : IsLawful journal v → (x : Shown) → In x v.shows
        → journal.reaches b x.clock x.commits
