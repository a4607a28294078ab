-- The lines of the rule. What needs that the store was lawful at the opening is after `Lawful`;
-- the rest holds of every store.
use Rattle.std.specs.Prelude.{◌≡◌, ◌≢◌, ℕ, suc, ◌+◌, ◌<◌, ◌≤◌, true, nat_lt, ◌&&◌, not, cond, List, [], ◌∷◌, ◌++◌}
use Rattle.std.specs.Prelude.{length, slice_index, Option, Some, None, ⊤}
use mathlib.Core.Option.{some}
use lib.ListN.{get_elem?}
use Rattle.std.specs.declared.snapshot.Snapshot.{Snapshot}
use Rattle.atomic_table.specs.Table.{State}
use Rattle.page_types.specs.Numbers.{page_limit}
use Rattle.page_types.specs.Encoding.{page_bytes}
use Rattle.core_state.specs.Log.{Log, In, Shows, commits, cut, next_xid, replay}
use Rattle.core_state.specs.Legal.{IsLegal, Pin, Keeps}
use Rattle.core_state.specs.Logged.{pin_now}
use Rattle.core_state.specs.Readings.{AreReads}
use Rattle.core_state.specs.Allowed.{AreOthers}
use Rattle.latch_table.specs.declared.slots.Framed.{Ghosts as Framed}
use Rattle.latch_table.specs.declared.slots.Journaled.{Ghosts as Journaled}
use Rattle.latch_table.specs.declared.slots.Slot.{Slot}
use Rattle.latch_table.specs.declared.slots.Slot.TheVariants.{Frame, Journal, Away}
use Rattle.latch_table.specs.declared.states.Note.{Note}
use Rattle.latch_table.specs.declared.states.Reading.{Reading}
use Rattle.latch_table.specs.declared.states.PinNote.{PinNote}
use Rattle.latch_table.specs.declared.states.RedoNote.{RedoNote}
use Rattle.latch_table.specs.declared.states.WalkNote.{WalkNote}
use Rattle.latch_table.specs.declared.states.Shown.{Shown}
use Rattle.latch_table.specs.declared.states.PassState.{PassState}
use Rattle.latch_table.specs.PassStates.{view_of, reads, pin_of}
use Rattle.latch_table.specs.Shapes.{Shape, total, times}

-- no note is of frame k
abbrev pub Absent : ℕ → List Note → Type 0
Absent k [] = ⊤
Absent k (f ∷ fs) = (k ≢ f.frame) × Absent k fs

-- 1 where record k was logged since the opening
abbrev pub is_since : ℕ → ℕ → ℕ → ℕ
is_since opened len k = cond (nat_lt opened k && not (nat_lt len k)) 1 0

-- The words

module _ {F J : Type 0} where
  -- One word a frame, then the journal's and that of the right of maintenance; a slot for each. A
  -- word is 0 exactly where nobody holds it.
  pub record Words (h : Shape J) (s : State (Slot F J) (PassState J)) : Type 0 where
    pub wide : length s.words ≡ h.frames + 2
    pub deep : length s.homes ≡ h.frames + 2
    pub free : (i : ℕ) → i < h.frames + 2 → h.holder i ≡ 0 → slice_index s.words i ≡ 0
    pub taken : (i : ℕ) → i < h.frames + 2 → 0 < h.holder i → 0 < slice_index s.words i

module _ {F J : Type 0} (frame : Framed F) (journal : Journaled J) (start : J) where
  -- the frame i as it lies: it has the page that the journal names for it, and its bytes are the
  -- replay
  pub record IsFrame (h : Shape J) (i : ℕ) (f : F) : Type 0 where
    pub page : frame.page f ≡ journal.place h.journal i
    pub bytes : journal.lawful start → frame.page f < page_limit
        → frame.bytes f ≡ replay h.log (frame.page f)

  -- where a word is free, its value is at home; the last slot is empty
  pub record Homes (h : Shape J) (s : State (Slot F J) (PassState J)) : Type 0 where
    pub frames : (i : ℕ) → i < h.frames → h.holder i ≡ 0
        → (f : F) × (get_elem? s.homes i ≡ some (some (Frame f))) × IsFrame h i f
    pub journal_is : h.holder h.frames ≡ 0
        → get_elem? s.homes h.frames ≡ some (some (Journal h.journal))
    pub last : get_elem? s.homes (suc h.frames) ≡ some (some Away)

module _ {J : Type 0} where
  -- a word is noted in a view
  pub data IsNoted (h : Shape J) (v : PassState J) : ℕ → Type 0 where
    as_frame : (f : Note) → In f v.frames → IsNoted h v f.frame
    as_journal : (b : J) → v.journal ≡ Some b → IsNoted h v h.frames
    as_work : (at : ℕ) → v.work ≡ Some at → IsNoted h v (suc h.frames)

  -- each word that is taken is noted in its holder's view
  abbrev pub AreNoted : Shape J → List (PassState J) → Type 0
  AreNoted h views = (i j : ℕ) → i < h.frames + 2 → h.holder i ≡ suc j
      → (v : PassState J) × (get_elem? views j ≡ some v) × IsNoted h v i

  -- a view without room holds nothing and owns nothing
  pub record IsSpent (v : PassState J) : Type 0 where
    pub pin : v.pin ≡ None
    pub frames : v.frames ≡ []
    pub journal_is : v.journal ≡ None
    pub work : v.work ≡ None
    pub redo : v.redo ≡ None
    pub walk : v.walk ≡ None
    pub xids : v.xids ≡ []
    pub begun : v.begun ≡ []
    pub own : v.own ≡ []
    pub faults : v.faults ≡ 0
    pub write_faults : v.write_faults ≡ 0

-- no page has two frames
abbrev pub ArePlaced : {J : Type 0} → Journaled J → Shape J → Type 0
ArePlaced journal h = (i k : ℕ) → i < h.frames → k < h.frames
    → journal.place h.journal i ≡ journal.place h.journal k → i ≡ k

module _ {J : Type 0} (journal : Journaled J) (start : J) where
  -- the store was lawful at the opening
  abbrev pub Lawful : Type 0
  Lawful = journal.lawful start

  -- The log and the pages

  -- the journal stands for the log, which is legal; what is flushed is within it, and reached from
  -- some clock value on
  pub record IsStore (h : Shape J) : Type 0 where
    pub stands : journal.stands h.journal h.log
    pub length_is : journal.length_of h.journal ≡ length h.log
    pub opened : journal.length_of start ≤ length h.log
    pub counted : journal.counted h.journal ≤ length h.log
    pub flushed : Lawful
        → journal.flushed h.journal ≡ commits (cut (journal.counted h.journal) h.log)
    pub reached : (c : ℕ) × (Lawful → journal.reaches h.journal c (journal.flushed h.journal))
    pub legal : Lawful → IsLegal h.log
    pub shown : Lawful → Shows h.log h.pages

  -- the journal's pins are those of the views; the log keeps each of them, and the one that a
  -- statement would take now
  pub record ArePinned (h : Shape J) (views : List (PassState J)) : Type 0 where
    pub of_views : (k : ℕ) (p : Pin) → journal.pins h.journal k ≡ Some p
        → (j : ℕ) × (v : PassState J) × (q : PinNote) × (h.pinner k ≡ suc j)
        × (get_elem? views j ≡ some v) × (v.pin ≡ Some q) × (q.place ≡ k)
    pub kept : Lawful → (k : ℕ) (p : Pin) → journal.pins h.journal k ≡ Some p → Keeps h.log p
    pub now : Lawful → Keeps h.log (pin_now (journal.flushed h.journal) h.log)

  -- What a view knows, a name a line

  -- the log goes on from what was seen, by records of others; what was shown is flushed
  pub record HasSeen (h : Shape J) (v : PassState J) : Type 0 where
    pub later : Log
    pub goes_on : h.log ≡ later ++ v.seen
    pub others : Lawful → AreOthers (view_of v) later
    pub shown : v.shown ≤ journal.flushed h.journal
    pub counted : v.counted ≤ journal.counted h.journal

  -- a note says the page of its frame, and of a lawful store the page that encodes its bytes
  pub record IsNote (h : Shape J) (f : Note) : Type 0 where
    pub placed : journal.place h.journal f.frame ≡ f.page
    pub shown : Lawful → f.page < page_limit
        → (h.pages f.page ≡ f.content) × (page_bytes f.content ≡ f.bytes)

  -- each frame noted is this seat's and is as noted, and none is noted twice
  abbrev pub HasFrames : Shape J → ℕ → List Note → Type 0
  HasFrames h j [] = ⊤
  HasFrames h j (f ∷ fs) = (f.frame < h.frames) × (h.holder f.frame ≡ suc j) × IsNote h f
      × Absent f.frame fs × HasFrames h j fs

  -- whoever has the journal has it as it was claimed, and has seen its log
  abbrev pub HasJournal : Shape J → ℕ → PassState J → Type 0
  HasJournal h j v = (b : J) → v.journal ≡ Some b
      → (h.holder h.frames ≡ suc j) × (b ≡ h.journal) × (v.seen ≡ h.log)

  -- the right of maintenance is this seat's, since a length of the log
  abbrev pub HasWork : Shape J → ℕ → Option ℕ → Type 0
  HasWork h j work = (at : ℕ) → work ≡ Some at
      → (h.holder (suc h.frames) ≡ suc j) × (at ≤ length h.log)

  -- the pin is this seat's, and the journal has it
  abbrev pub HasPin : Shape J → ℕ → Option PinNote → Type 0
  HasPin h j pin = (p : PinNote) → pin ≡ Some p
      → (h.pinner p.place ≡ suc j) × (journal.pins h.journal p.place ≡ Some (pin_of p))

  -- neither number is above what the pins give now
  pub record HasFloor (h : Shape J) (floor since : ℕ) : Type 0 where
    pub flushed : floor ≤ journal.flushed h.journal
    pub within : since ≤ length h.log
    pub pins : (k : ℕ) (p : Pin) → journal.pins h.journal k ≡ Some p
        → (floor ≤ p.commits) × (since ≤ p.length)

  -- the readings are readings of the log, from the last pin on
  abbrev pub HasRead : Shape J → ℕ → List Reading → Type 0
  HasRead h from xs = Lawful → (from ≤ length h.log) × AreReads h.log from (reads xs)

  -- its xids are above 0, were drawn, and are this seat's alone
  abbrev pub HasXids : Shape J → ℕ → List ℕ → Type 0
  HasXids h j xs = Lawful → (x : ℕ) → In x xs → (0 < x) × (x < next_xid h.log) × (h.owner x ≡ suc j)

  -- what was shown is reached from its clock value on
  abbrev pub HasShown : Shape J → List Shown → Type 0
  HasShown h xs = Lawful → (x : Shown) → In x xs → journal.reaches h.journal x.clock x.commits

  -- the redo number, and a write-back under way
  pub record HasRedo (h : Shape J) (redo : Option RedoNote) (walk : Option WalkNote) : Type 0 where
    pub number : Lawful → (x : RedoNote) → redo ≡ Some x
        → journal.has_redo h.journal h.log x.number x.written x.synced
    pub walked : Lawful → (x : WalkNote) → walk ≡ Some x
        → journal.has_walked h.journal h.log x.number x.bound x.passed

  -- the first pass, before it has seen the log: it is alone, and the journal is as at the opening
  pub record IsFresh (h : Shape J) (v : PassState J) : Type 0 where
    pub room : v.room ≡ 16
    pub journal_is : h.journal ≡ start

  -- all that the view of seat j knows
  pub record Knows (h : Shape J) (j : ℕ) (v : PassState J) : Type 0 where
    pub start_is : (k : Snapshot J) → v.start ≡ Some k → k.value ≡ start
    pub fresh : v.fresh ≡ true → IsFresh h v
    pub seen : HasSeen h v
    pub frames : HasFrames h j v.frames
    pub journal_is : HasJournal h j v
    pub work : HasWork h j v.work
    pub pin : HasPin h j v.pin
    pub floor : HasFloor h v.floor v.since
    pub read : HasRead h v.from v.readings
    pub xids : HasXids h j v.xids
    pub owed : journal.owes h.journal ≡ true → v.begun ≡ []
    pub shown : HasShown h v.shows
    pub redo : HasRedo h v.redo v.walk
    pub count : v.count ≤ journal.faults h.journal
    pub own : (k : ℕ) → In k v.own → k ≤ length v.seen
    pub spent : v.room ≡ 0 → IsSpent v
    pub met : (l : Log) → In l v.met → (later : Log) × (h.log ≡ later ++ l)

  -- Sums over all views

  -- all rooms are 16; the device's counts rose since the opening by what the passes noted; and each
  -- record logged since then is one pass's own, once
  pub record AddUp (h : Shape J) (views : List (PassState J)) : Type 0 where
    pub rooms : total (λ (v : PassState J). v.room) views ≡ 16
    pub faults : journal.faults start + total (λ (v : PassState J). v.faults) views
        ≡ journal.faults h.journal
    pub write_faults : journal.write_faults start
        + total (λ (v : PassState J). v.write_faults) views ≡ journal.write_faults h.journal
    pub own : (k : ℕ) → total (λ (v : PassState J). times k v.own) views
        ≡ is_since (journal.length_of start) (length h.log) k
