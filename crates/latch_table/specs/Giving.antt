-- What a pass changed while it had the journal, and what it owes of it when it gives the journal
-- back.
use Rattle.std.specs.Prelude.{◌≡◌, ◌≢◌, ◌⊎◌, ◌==◌, cond, ℕ, suc, ◌+◌, ◌-◌, ◌<◌, ◌≤◌, Bool, true, false, List, [], ◌∷◌}
use Rattle.std.specs.Prelude.{◌++◌, length, Option, Some, None}
use Rattle.page_types.specs.Numbers.{page_limit}
use Rattle.page_types.specs.Encoding.{page_bytes}
use Rattle.page_types.specs.declared.page.Page.{Page}
use Rattle.page_types.specs.declared.record.Record.{Record}
use Rattle.page_types.specs.declared.record.Kind.{Kind}
use Rattle.page_types.specs.declared.record.Kind.TheVariants as kind
use Rattle.core_state.specs.Log.{Log, Pages, In, Shows, commits, cut, after_changes}
use Rattle.core_state.specs.Legal.{Pin}
use Rattle.atomic_table.specs.Table.{Me}
use Rattle.atomic_table.specs.Table as table
use Rattle.core_state.specs.Allowed.{Sheet, Step, MayLog, Owes, made_by}
use Rattle.core_state.specs.Logged.{IsRecordOf, abort_all}
use Rattle.latch_table.specs.declared.slots.Journaled.{Ghosts as Journaled}
use Rattle.latch_table.specs.declared.slots.Slot.{Slot}
use Rattle.latch_table.specs.declared.slots.Slot.TheVariants.{Journal}
use Rattle.latch_table.specs.declared.states.Note.{Note}
use Rattle.latch_table.specs.declared.states.Reading.{Reading}
use Rattle.latch_table.specs.declared.states.PinNote.{PinNote}
use Rattle.latch_table.specs.declared.states.RedoNote.{RedoNote}
use Rattle.latch_table.specs.declared.states.WalkNote.{WalkNote}
use Rattle.latch_table.specs.declared.states.PassState.{PassState}
use Rattle.latch_table.specs.PassStates.{view_of, IsLawful}

-- a step that was logged, and its record
pub record Entry : Type 0 where
  pub step : Step
  pub logged : Record

-- a held frame that has another page from now on, with these bytes, which encode this page
pub record Swap : Type 0 where
  pub frame : ℕ
  pub page : ℕ
  pub bytes : List ℕ
  pub content : Page

-- The pass's pin is the same; or its readings begin anew under it; or it takes one, in this place;
-- or it gives its own up.
pub data PinChange : Type 0 where
  same : PinChange
  anew : PinChange
  takes : ℕ → PinChange
  drops : PinChange

-- What changed: at most one record more; at most one held frame with another page; the pin; these
-- xids are given up; the redo number and the write-back under way, as they are from now on.
pub record Given : Type 0 where
  pub entry : Option Entry
  pub swap : Option Swap
  pub pin : PinChange
  pub gives_up : List ℕ
  pub redo : Option RedoNote
  pub walk : Option WalkNote

-- floor and since, and a clock value by which what is flushed is reached
pub record Bounds : Type 0 where
  pub floor : ℕ
  pub since : ℕ
  pub clock : ℕ

-- the records that were added
abbrev pub added : Option Entry → Log
added None = []
added (Some e) = e.logged ∷ []

-- the sheets of the pages that were changed
abbrev pub touched : Option Entry → List Sheet
touched None = []
touched (Some e) = e.step.after

-- the numbers of the records that were added after so many
abbrev pub numbers_added : Option Entry → ℕ → List ℕ
numbers_added None n = []
numbers_added (Some e) n = suc n ∷ []

-- page p as the record leaves it, where it was `old`
abbrev pub content_after : Record → List Sheet → ℕ → Page → Page
content_after r [] p old = old
content_after r (s ∷ ss) p old =
    cond (s.page == p) (made_by r s.content) (content_after r ss p old)

-- and page p as what was added leaves it, and its bytes
abbrev pub content_of : Option Entry → ℕ → Page → Page
content_of None p old = old
content_of (Some e) p old = content_after e.logged e.step.after p old

abbrev pub bytes_of : Option Entry → ℕ → List ℕ → List ℕ
bytes_of None p old = old
bytes_of (Some e) p old = after_changes e.logged.number e.logged.changes p old

-- a held frame's note afterwards
abbrev pub changed_note : Option Entry → Note → Note
changed_note e f = record f {
  bytes = bytes_of e f.page f.bytes;
  content = content_of e f.page f.content;
}

-- what a swap has where it is of frame k, else as it was
abbrev pub swapped : {A : Type 0} → (Swap → A) → Option Swap → ℕ → A → A
swapped get None k old = old
swapped get (Some s) k old = cond (k == s.frame) (get s) old

-- a held frame's note, where it may have another page
abbrev pub swapped_note : Option Swap → Note → Note
swapped_note s f = record {
  frame = f.frame;
  page = swapped (λ (x : Swap). x.page) s f.frame f.page;
  bytes = swapped (λ (x : Swap). x.bytes) s f.frame f.bytes;
  content = swapped (λ (x : Swap). x.content) s f.frame f.content;
}

abbrev pub notes_after : Option Entry → Option Swap → List Note → List Note
notes_after e s [] = []
notes_after e s (f ∷ fs) = swapped_note s (changed_note e f) ∷ notes_after e s fs

-- the list without x
abbrev pub less : ℕ → List ℕ → List ℕ
less x [] = []
less x (y ∷ ys) = cond (y == x) (less x ys) (y ∷ less x ys)

-- the list without these
abbrev pub less_all : List ℕ → List ℕ → List ℕ
less_all [] ys = ys
less_all (x ∷ xs) ys = less x (less_all xs ys)

-- xids after a record of this kind and xid
abbrev pub xids_by : Kind → ℕ → List ℕ → List ℕ
xids_by kind.Begin x xs = x ∷ xs
xids_by (kind.Commit n) x xs = less x xs
xids_by kind.Abort x xs = cond (x == 0) [] (less x xs)
xids_by k x xs = xs

abbrev pub xids_after : Option Entry → List ℕ → List ℕ
xids_after None xs = xs
xids_after (Some e) xs = xids_by e.logged.kind e.logged.xid xs

-- the pin afterwards, where so many commits are flushed and the log has this length
abbrev pub pin_after : PinChange → ℕ → ℕ → Option PinNote → Option PinNote
pin_after same flushed len old = old
pin_after anew flushed len old = old
pin_after (takes k) flushed len old =
    Some (record { place = k; commits = flushed; length = len })
pin_after drops flushed len old = None

abbrev pub from_after : PinChange → ℕ → ℕ → ℕ
from_after anew len old = len
from_after (takes k) len old = len
from_after change len old = old

abbrev pub readings_after : PinChange → List Reading → List Reading
readings_after anew old = []
readings_after (takes k) old = []
readings_after change old = old

-- a statement's snapshot is that of its pin
abbrev pub pinned_commits : Option PinNote → ℕ → ℕ
pinned_commits None old = old
pinned_commits (Some p) old = p.commits

abbrev pub snapshot_after : PinChange → ℕ → Option PinNote → ℕ → ℕ
snapshot_after anew flushed pin old = pinned_commits pin old
snapshot_after (takes k) flushed pin old = flushed
snapshot_after change flushed pin old = old

-- nothing changed
abbrev pub unchanged : {J : Type 0} → PassState J → Given
unchanged v = record {
  entry = None;
  swap = None;
  pin = same;
  gives_up = [];
  redo = v.redo;
  walk = v.walk;
}

module _ {J : Type 0} (journal : Journaled J) where
  -- the pass after it gave the journal back, which was b as it was claimed and stood for R
  abbrev pub given_back : Log → J → J → Given → Bounds → PassState J → PassState J
  given_back R b b' g x v = record v {
    seen = added g.entry ++ R;
    shown = journal.flushed b';
    counted = journal.counted b';
    shows = record { clock = x.clock; commits = journal.flushed b' } ∷ v.shows;
    floor = x.floor;
    since = x.since;
    faults = v.faults + (journal.faults b' - journal.faults b);
    write_faults = v.write_faults + (journal.write_faults b' - journal.write_faults b);
    count = journal.faults b';
    snapshot = snapshot_after g.pin (journal.flushed b') v.pin v.snapshot;
    pin = pin_after g.pin (journal.flushed b') (length (added g.entry ++ R)) v.pin;
    from = from_after g.pin (length (added g.entry ++ R)) v.from;
    readings = readings_after g.pin v.readings;
    frames = notes_after g.entry g.swap v.frames;
    journal = None;
    own = numbers_added g.entry (length R) ++ v.own;
    xids = less_all g.gives_up (xids_after g.entry v.xids);
    begun = less_all g.gives_up (xids_after g.entry v.begun);
    redo = g.redo;
    walk = g.walk;
  }

  -- Floor and since are the greatest numbers that what is flushed, the log's length and the pins
  -- allow; of a lawful store, what is flushed is reached at the clock value.
  pub record AreBounds (v : PassState J) (b : J) (x : Bounds) : Type 0 where
    pub flushed : x.floor ≤ journal.flushed b
    pub within : x.since ≤ journal.length_of b
    pub pins : (k : ℕ) (p : Pin) → journal.pins b k ≡ Some p
        → (x.floor ≤ p.commits) × (x.since ≤ p.length)
    pub most : (n m : ℕ) → n ≤ journal.flushed b → m ≤ journal.length_of b
        → ((k : ℕ) (p : Pin) → journal.pins b k ≡ Some p → (n ≤ p.commits) × (m ≤ p.length))
        → (n ≤ x.floor) × (m ≤ x.since)
    pub reached : IsLawful journal v → journal.reaches b x.clock (journal.flushed b)

  -- Why a record may be logged: it is of a step that the pass may log after each log that is
  -- allowed to it, and of which it shows what it owes; or it is the abort of all that run, where
  -- that is owed or no other pass has room.
  pub data MayAppend (v : PassState J) (R : Log) (b : J) (e : Entry) : Type 0 where
    of_step : MayLog (view_of v) e.step → Owes (view_of v) e.step
        → IsRecordOf R e.step e.logged → MayAppend v R b e
    of_all : e.step ≡ abort_all → R ≢ [] → IsRecordOf R e.step e.logged
        → (journal.owes b ≡ true) ⊎ (v.room ≡ 16) → MayAppend v R b e

  -- A held frame may take this page, which was in none of so many frames. Of a lawful store, its
  -- bytes are those of the page.
  pub record MaySwap (frames : ℕ) (v : PassState J) (b b' : J) (log : Log) (s : Swap) : Type 0 where
    pub held : (f : Note) × In f v.frames × (f.frame ≡ s.frame)
    pub placed : journal.place b' s.frame ≡ s.page
    pub nowhere : (i : ℕ) → i < frames → i ≢ s.frame → journal.place b i ≢ s.page
    pub shown : IsLawful journal v → s.page < page_limit → (P : Pages) → Shows log P
        → (P s.page ≡ s.content) × (page_bytes s.content ≡ s.bytes)

  -- the pins but that in place k are the same
  abbrev pub PinsElse : J → J → ℕ → Type 0
  PinsElse b b' k = (i : ℕ) → i ≢ k → journal.pins b' i ≡ journal.pins b i

  -- the journal's pins changed as the pass's did, where the log has this length
  abbrev pub PinsMove : PassState J → J → J → ℕ → PinChange → Type 0
  PinsMove v b b' len same = (i : ℕ) → journal.pins b' i ≡ journal.pins b i
  PinsMove v b b' len anew = (i : ℕ) → journal.pins b' i ≡ journal.pins b i
  PinsMove v b b' len (takes k) =
      (v.pin ≡ None) × (journal.pins b k ≡ None)
      × (journal.pins b' k ≡ Some (record { commits = journal.flushed b'; length = len }))
      × PinsElse b b' k
  PinsMove v b b' len drops =
      (p : PinNote) × (v.pin ≡ Some p) × (journal.pins b' p.place ≡ None) × PinsElse b b' p.place

  -- The journal may be given back, which was b as the pass claimed it and stood for R, into a table
  -- of so many frames. What needs a lawful store is asked of such alone.
  pub record MayGive (frames : ℕ) (v : PassState J) (R : Log) (b b' : J) (g : Given) : Type 0 where
    pub stands : journal.stands b' (added g.entry ++ R)
    pub length_is : journal.length_of b' ≡ length (added g.entry ++ R)
    pub counted : journal.counted b ≤ journal.counted b'
    pub within : journal.counted b' ≤ length (added g.entry ++ R)
    pub flushed : journal.flushed b ≤ journal.flushed b'
    pub commits_are : IsLawful journal v
        → journal.flushed b' ≡ commits (cut (journal.counted b') (added g.entry ++ R))
    pub still_reached : IsLawful journal v → (clock n : ℕ) → journal.reaches b clock n
        → journal.reaches b' clock n
    pub faults : journal.faults b ≤ journal.faults b'
    pub write_faults : journal.write_faults b ≤ journal.write_faults b'
    pub owes : journal.owes b' ≡ true → journal.owes b ≡ true
    pub begins : (e : Entry) → g.entry ≡ Some e → e.logged.kind ≡ kind.Begin
        → journal.owes b' ≡ false
    pub append : IsLawful journal v → (e : Entry) → g.entry ≡ Some e → MayAppend v R b e
    pub swap : (s : Swap) → g.swap ≡ Some s
        → MaySwap frames v b b' (added g.entry ++ R) s
    pub places : (i : ℕ) → i < frames → ((s : Swap) → g.swap ≡ Some s → i ≢ s.frame)
        → journal.place b' i ≡ journal.place b i
    pub pins : PinsMove v b b' (length (added g.entry ++ R)) g.pin
    pub redo : IsLawful journal v → (n : ℕ) (written synced : Bool)
        → journal.has_redo b R n written synced
        → journal.has_redo b' (added g.entry ++ R) n written synced
    pub walks : IsLawful journal v → (n bound passed : ℕ)
        → journal.has_walked b R n bound passed
        → journal.has_walked b' (added g.entry ++ R) n bound passed
    pub own_redo : IsLawful journal v → (x : RedoNote) → g.redo ≡ Some x
        → journal.has_redo b' (added g.entry ++ R) x.number x.written x.synced
    pub own_walk : IsLawful journal v → (x : WalkNote) → g.walk ≡ Some x
        → journal.has_walked b' (added g.entry ++ R) x.number x.bound x.passed
    pub bounds : (x : Bounds) × AreBounds v b' x

  -- The pass gave the journal back, which was b as it was claimed.
  pub record HasGivenJournal (b b' : J) (g : Given) (old new : PassState J) : Type 0 where
    pub bounds : Bounds
    pub are_bounds : AreBounds old b' bounds
    pub state : new ≡ given_back old.seen b b' g bounds old

  -- the pass has the journal, which it may give back as b', by what it says that it changed
  abbrev pub CanGive : ℕ → PassState J → J → Given → Type 0
  CanGive frames v b' g = (b : J) × (v.journal ≡ Some b) × MayGive frames v v.seen b b' g

module _ {F J : Type 0} (journal : Journaled J) where
  -- the journal was given back, with the changes that are said of it
  abbrev pub gave_journal : (PassState J → J → Given) → table.Step (Slot F J)
      → Me (Slot F J) (PassState J) → ℕ → Me (Slot F J) (PassState J) → Type 0
  gave_journal change st m found m' =
      (b b' : J) (xs : List (ℕ × Slot F J)) → m.0.journal ≡ Some b
      → m.1 ≡ (st.word, Journal b') ∷ xs
      → HasGivenJournal journal b b' (change m.0 b') m.0 m'.0 × (m'.1 ≡ xs)
