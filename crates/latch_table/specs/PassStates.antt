-- What a pass knows, in the core's words, and what each kind of step makes of it.
use Rattle.std.specs.Prelude.{◌≡◌, ◌==◌, ◌+◌, ◌-◌, Bool, true, false, nat_lt, cond, ℕ, zero, suc, List, [], ◌∷◌, ◌++◌}
use Rattle.std.specs.Prelude.{length, Option, Some, None}
use Rattle.std.specs.declared.snapshot.Snapshot.{Snapshot}
use Rattle.page_types.specs.Numbers.{page_limit}
use Rattle.page_types.specs.declared.page.Page.{Page}
use Rattle.core_state.specs.Log.{Log, fate, next_xid}
use Rattle.core_state.specs.Legal.{Pin}
use Rattle.core_state.specs.Readings.{Read}
use Rattle.core_state.specs.Allowed.{View, Sheet}
use Rattle.core_state.specs.declared.answers.Fate.{Fate}
use Rattle.core_state.specs.declared.answers.Fate.TheVariants.{Running}
use Rattle.latch_table.specs.declared.slots.Journaled.{Ghosts as Journaled}
use Rattle.latch_table.specs.declared.states.Note.{Note}
use Rattle.latch_table.specs.declared.states.Reading.{Reading}
use Rattle.latch_table.specs.declared.states.PinNote.{PinNote}
use Rattle.latch_table.specs.declared.states.Find.{Find}
use Rattle.latch_table.specs.declared.states.PassState.{PassState}

-- the sheets, and this page in front where it is one
abbrev pub sheet_if : Bool → ℕ → Page → List Sheet → List Sheet
sheet_if true p c ss = record { page = p; content = c } ∷ ss
sheet_if false p c ss = ss

-- the pages that a pass holds; an empty frame has none
abbrev pub sheets : List Note → List Sheet
sheets [] = []
sheets (f ∷ fs) = sheet_if (nat_lt f.page page_limit) f.page f.content (sheets fs)

-- the readings in the core's words
abbrev pub reads : List Reading → List Read
reads [] = []
reads (x ∷ xs) = record { length = x.length; page = x.page; content = x.content } ∷ reads xs

abbrev pub pin_of : PinNote → Pin
pin_of p = record { commits = p.commits; length = p.length }

abbrev pub pin_if : Option PinNote → Option Pin
pin_if None = None
pin_if (Some p) = Some (pin_of p)

-- the list, and x in front where it runs
abbrev pub runs_if : Fate → ℕ → List ℕ → List ℕ
runs_if Running x xs = x ∷ xs
runs_if _ x xs = xs

-- the xids from 1 to n that run
abbrev pub running_to : Log → ℕ → List ℕ
running_to R zero = []
running_to R (suc n) = runs_if (fate R (suc n)) (suc n) (running_to R n)

-- the xids that run
abbrev pub running : Log → List ℕ
running R = running_to R (next_xid R - 1)

-- the notes but that of this frame
abbrev pub without : ℕ → List Note → List Note
without k [] = []
without k (f ∷ fs) = cond (f.frame == k) fs (f ∷ without k fs)

-- the list, and x in front where it is to be noted
abbrev pub finds_if : Bool → Find → List Find → List Find
finds_if true x xs = x ∷ xs
finds_if false x xs = xs

-- the longer of two logs, the first where they are as long as each other
abbrev pub longer : Log → Log → Log
longer xs ys = cond (nat_lt (length xs) (length ys)) ys xs

abbrev pub greater : ℕ → ℕ → ℕ
greater a b = cond (nat_lt a b) b a

module _ {J : Type 0} where
  -- what the core sees of a pass
  abbrev pub view_of : PassState J → View
  view_of v = record {
    seen = v.seen;
    pin = pin_if v.pin;
    floor = v.floor;
    since = v.since;
    from = v.from;
    readings = reads v.readings;
    held = sheets v.frames;
    xids = v.xids;
    begun = v.begun;
    work = v.work;
  }

  -- a pass that knows nothing and holds nothing
  abbrev pub blank : PassState J
  blank = record {
    start = None;
    fresh = false;
    seen = [];
    shown = 0;
    counted = 0;
    shows = [];
    floor = 0;
    since = 0;
    faults = 0;
    write_faults = 0;
    count = 0;
    snapshot = 0;
    pin = None;
    from = 0;
    readings = [];
    frames = [];
    journal = None;
    own = [];
    xids = [];
    begun = [];
    work = None;
    redo = None;
    walk = None;
    room = 0;
    finds = [];
    met = [];
  }

  -- the first pass, before it has seen the log
  abbrev pub first_state : Snapshot J → PassState J
  first_state key = record blank { start = Some key; fresh = true; room = 16 }

  -- the pass after an exchange, where it notes what that found in this word
  abbrev pub found_by : Bool → ℕ → ℕ → PassState J → PassState J
  found_by notes word found v = record v {
    finds = finds_if notes (record { word = word; found = found }) v.finds;
  }

  -- A pass with one frame more, claimed when the log had this length. It is a reading exactly where
  -- its page is the one sought.
  abbrev pub with_frame : ℕ → ℕ → Note → PassState J → PassState J
  with_frame at sought f v = record v {
    frames = f ∷ v.frames;
    readings = cond (f.page == sought)
        (v.readings
        ++ record { length = at; page = f.page; bytes = f.bytes; content = f.content } ∷ [])
        v.readings;
  }

  -- a second pass, which has seen the same, with a room of 1
  abbrev pub split_off : PassState J → PassState J
  split_off v = record blank {
    start = v.start;
    seen = v.seen;
    shown = v.shown;
    counted = v.counted;
    floor = v.floor;
    since = v.since;
    count = v.count;
    snapshot = v.snapshot;
    room = 1;
  }

  -- the pass that was split
  abbrev pub with_less_room : PassState J → PassState J
  with_less_room v = record v { room = v.room - 1 }

  -- a pass that has taken in another, which holds nothing and has no pin
  abbrev pub joined : PassState J → PassState J → PassState J
  joined v w = record v {
    seen = longer v.seen w.seen;
    shown = greater v.shown w.shown;
    counted = greater v.counted w.counted;
    shows = v.shows ++ w.shows;
    floor = greater v.floor w.floor;
    since = greater v.since w.since;
    faults = v.faults + w.faults;
    write_faults = v.write_faults + w.write_faults;
    count = greater v.count w.count;
    own = v.own ++ w.own;
    xids = v.xids ++ w.xids;
    begun = v.begun ++ w.begun;
    room = v.room + w.room;
    met = v.seen ∷ w.seen ∷ v.met;
  }

  -- a pass that was joined to another
  abbrev pub spent : PassState J
  spent = blank

  -- a pass with the right of maintenance, which it got when the log had this length
  abbrev pub with_work : ℕ → PassState J → PassState J
  with_work at v = record v { work = Some at }

  -- a pass that gave the right back
  abbrev pub without_work : PassState J → PassState J
  without_work v = record v { work = None }

  -- a pass that gave a frame back
  abbrev pub without_frame : ℕ → PassState J → PassState J
  without_frame k v = record v { frames = without k v.frames }

module _ {J : Type 0} (journal : Journaled J) where
  -- the first pass once it has seen the log that the journal stands for, at a clock value by which
  -- what is flushed is reached
  abbrev pub open_state : J → Log → ℕ → PassState J → PassState J
  open_state b R clock v = record v {
    fresh = false;
    seen = R;
    shown = journal.flushed b;
    counted = journal.counted b;
    shows = record { clock = clock; commits = journal.flushed b } ∷ v.shows;
    floor = journal.flushed b;
    since = length R;
    count = journal.faults b;
    xids = running R;
  }

  -- a pass that has claimed the journal, and so has seen the log that it stands for, at a clock
  -- value by which what is flushed is reached
  abbrev pub with_journal : J → Log → ℕ → PassState J → PassState J
  with_journal b R clock v = record v {
    seen = R;
    shown = journal.flushed b;
    counted = journal.counted b;
    shows = record { clock = clock; commits = journal.flushed b } ∷ v.shows;
    journal = Some b;
  }

  -- the store was lawful at the opening
  abbrev pub IsLawful : PassState J → Type 0
  IsLawful v = (k : Snapshot J) × (v.start ≡ Some k) × journal.lawful k.value
