-- What each kind of step says the pass that makes it.
use Rattle.std.specs.Prelude.{◌≡◌, ◌≢◌, ◌<◌, ◌≤◌, ◌-◌, Bool, true, ℕ, List, [], ◌∷◌, ◌++◌, length, Some, None}
use Rattle.std.specs.declared.snapshot.Snapshot.{Snapshot}
use Rattle.atomic_table.specs.Table.{Me, Step}
use Rattle.page_types.specs.Numbers.{page_limit}
use Rattle.page_types.specs.Encoding.{page_bytes}
use Rattle.page_types.specs.declared.page.Page.{Page}
use Rattle.core_state.specs.Log.{Log, In, commits, cut}
use Rattle.core_state.specs.Legal.{Pin, Keeps}
use Rattle.core_state.specs.Logged.{pin_now}
use Rattle.core_state.specs.Allowed.{IsAllowed}
use Rattle.latch_table.specs.declared.slots.Framed.{Ghosts as Framed}
use Rattle.latch_table.specs.declared.slots.Journaled.{Ghosts as Journaled}
use Rattle.latch_table.specs.declared.slots.Slot.{Slot}
use Rattle.latch_table.specs.declared.slots.Slot.TheVariants.{Frame, Journal}
use Rattle.latch_table.specs.declared.states.Note.{Note}
use Rattle.latch_table.specs.declared.states.PinNote.{PinNote}
use Rattle.latch_table.specs.declared.states.RedoNote.{RedoNote}
use Rattle.latch_table.specs.declared.states.WalkNote.{WalkNote}
use Rattle.latch_table.specs.declared.states.Shown.{Shown}
use Rattle.latch_table.specs.declared.states.PassState.{PassState}
use Rattle.latch_table.specs.Closing.{IsAllSince, HadSeenAll}
use Rattle.latch_table.specs.PassStates.{view_of, pin_of, found_by, with_frame, without_frame, with_work, without_work}
use Rattle.latch_table.specs.PassStates.{open_state, with_journal, IsLawful}

module _ {F J : Type 0} (frame : Framed F) (journal : Journaled J) where
  -- The frame `at`, with this value, was claimed when the log was one that goes on from what the
  -- pass had seen, and is that where the pass is alone. Of a lawful store, that log is allowed to the pass as it is
  -- then, and the page that is noted encodes the frame's bytes.
  pub record HasClaimed (at sought : ℕ) (f : F) (old new : PassState J) : Type 0 where
    pub log : Log
    pub content : Page
    pub goes_on : (later : Log) × (log ≡ later ++ old.seen)
    pub state : new ≡ with_frame (length log) sought
        (record { frame = at; page = frame.page f; bytes = frame.bytes f; content = content }) old
    pub alone : HadSeenAll journal old log
    pub allowed : IsLawful journal old → IsAllowed (view_of new) log
    pub encoded : IsLawful journal old → frame.page f < page_limit
        → page_bytes content ≡ frame.bytes f

  -- a try to claim a frame found its word free, or taken
  abbrev pub claimed : Bool → Step (Slot F J) → Me (Slot F J) (PassState J) → ℕ
      → Me (Slot F J) (PassState J) → Type 0
  claimed notes st m found m' =
      (found ≡ 0 → (f : F)
      × HasClaimed st.word (st.second - 1) f (found_by notes st.word found m.0) m'.0
      × (m'.1 ≡ (st.word, Frame f) ∷ m.1))
      × (found ≢ 0 → m' ≡ (found_by notes st.word found m.0, m.1))

module _ {J : Type 0} (journal : Journaled J) where
  -- The first pass has seen the log that the journal stands for. Of a lawful store, that log is
  -- allowed to it, and what is flushed is reached at the clock value that it was shown.
  pub record HasOpened (b : J) (old new : PassState J) : Type 0 where
    pub log : Log
    pub clock : ℕ
    pub stands : journal.stands b log
    pub length_is : journal.length_of b ≡ length log
    pub state : new ≡ open_state journal b log clock old
    pub allowed : journal.lawful b → IsAllowed (view_of new) log
    pub reached : journal.lawful b → journal.reaches b clock (journal.flushed b)

  -- The journal was claimed, and the pass has seen the log that it stands for, which goes on from
  -- what the pass had seen. What the pass was shown to be flushed is so; it has the pin and the
  -- places of frames that the pass noted; neither floor nor since is above what its pins give; and a
  -- pass without a pin finds one of 16 places free. A pass with the whole room is alone, and so has
  -- noted all that was since the opening. Of a lawful store, the log is allowed to the pass as it
  -- was, and keeps the pin that it would take; what it was shown is reached still, and what its redo
  -- number and its write-back promise holds.
  pub record HasClaimedJournal (b : J) (old new : PassState J) : Type 0 where
    pub log : Log
    pub clock : ℕ
    pub stands : journal.stands b log
    pub state : new ≡ with_journal journal b log clock old
    pub goes_on : (later : Log) × (log ≡ later ++ old.seen)
    pub length_is : journal.length_of b ≡ length log
    pub within : journal.counted b ≤ length log
    pub shown : old.shown ≤ journal.flushed b
    pub counted : old.counted ≤ journal.counted b
    pub count : old.count ≤ journal.faults b
    pub floor : old.floor ≤ journal.flushed b
    pub since : old.since ≤ length log
    pub pins : (k : ℕ) (p : Pin) → journal.pins b k ≡ Some p
        → (old.floor ≤ p.commits) × (old.since ≤ p.length)
    pub pin : (p : PinNote) → old.pin ≡ Some p → journal.pins b p.place ≡ Some (pin_of p)
    pub place_free : old.pin ≡ None → (k : ℕ) × (k < 16) × (journal.pins b k ≡ None)
    pub placed : (f : Note) → In f old.frames → journal.place b f.frame ≡ f.page
    pub alone : old.room ≡ 16 → (key : Snapshot J) → old.start ≡ Some key
        → IsAllSince journal key.value b old log
    pub owed : journal.owes b ≡ true → old.begun ≡ []
    pub allowed : IsLawful journal old → IsAllowed (view_of old) log
    pub keeps : IsLawful journal old → Keeps log (pin_now (journal.flushed b) log)
    pub flushed : IsLawful journal old
        → journal.flushed b ≡ commits (cut (journal.counted b) log)
    pub reached : IsLawful journal old → journal.reaches b clock (journal.flushed b)
    pub shows : IsLawful journal old → (x : Shown) → In x old.shows
        → journal.reaches b x.clock x.commits
    pub redo : IsLawful journal old → (x : RedoNote) → old.redo ≡ Some x
        → journal.has_redo b log x.number x.written x.synced
    pub walked : IsLawful journal old → (x : WalkNote) → old.walk ≡ Some x
        → journal.has_walked b log x.number x.bound x.passed

  -- The right of maintenance was claimed when the log was one that goes on from what the pass had
  -- seen, and is that where the pass is alone. Of a lawful store, that log is allowed to the pass as it is then.
  pub record HasClaimedWork (old new : PassState J) : Type 0 where
    pub log : Log
    pub goes_on : (later : Log) × (log ≡ later ++ old.seen)
    pub state : new ≡ with_work (length log) old
    pub alone : HadSeenAll journal old log
    pub allowed : IsLawful journal old → IsAllowed (view_of new) log

module _ {F J : Type 0} (journal : Journaled J) where
  -- a claim found the right free, or taken
  abbrev pub claimed_work : Bool → Step (Slot F J) → Me (Slot F J) (PassState J) → ℕ
      → Me (Slot F J) (PassState J) → Type 0
  claimed_work notes st m found m' =
      (m'.1 ≡ m.1)
      × (found ≡ 0 → HasClaimedWork journal (found_by notes st.word found m.0) m'.0)
      × (found ≢ 0 → m'.0 ≡ found_by notes st.word found m.0)

  -- a claim found the journal free, or taken
  abbrev pub claimed_journal : Step (Slot F J) → Me (Slot F J) (PassState J) → ℕ
      → Me (Slot F J) (PassState J) → Type 0
  claimed_journal st m found m' =
      (found ≡ 0 → (b : J) × HasClaimedJournal journal b m.0 m'.0
      × (m'.1 ≡ (st.word, Journal b) ∷ m.1))
      × (found ≢ 0 → m' ≡ m)

module _ {F J : Type 0} where
  -- a frame was given back
  abbrev pub gave_back : Step (Slot F J) → Me (Slot F J) (PassState J) → ℕ
      → Me (Slot F J) (PassState J) → Type 0
  gave_back st m found m' =
      (m'.0 ≡ without_frame st.word m.0)
      × ((x : ℕ × Slot F J) (xs : List (ℕ × Slot F J)) → m.1 ≡ x ∷ xs → m'.1 ≡ xs)

  -- the right of maintenance was given back
  abbrev pub gave_work : Step (Slot F J) → Me (Slot F J) (PassState J) → ℕ
      → Me (Slot F J) (PassState J) → Type 0
  gave_work st m found m' = m' ≡ (without_work m.0, m.1)

  -- each log that the pass met, and that is no longer than what it has seen, is a beginning of that
  abbrev pub looked : Step (Slot F J) → Me (Slot F J) (PassState J) → ℕ
      → Me (Slot F J) (PassState J) → Type 0
  looked st m found m' =
      (m' ≡ m)
      × ((l : Log) → In l m.0.met → length l ≤ length m.0.seen
      → (later : Log) × (m.0.seen ≡ later ++ l))

  -- the first pass looked at the journal as it was at the opening
  abbrev pub opened : Journaled J → Step (Slot F J) → Me (Slot F J) (PassState J) → ℕ
      → Me (Slot F J) (PassState J) → Type 0
  opened journal st m found m' =
      (k : Snapshot J) → m.0.start ≡ Some k
      → HasOpened journal k.value m.0 m'.0 × (m'.1 ≡ m.1)
