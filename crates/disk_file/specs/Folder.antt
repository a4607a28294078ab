-- A folder with the two files of a store, and what its calls do to it.
use Rattle.std.specs.Prelude.{◌≡◌, ◌≢◌, ℕ, ◌-◌, ◌<◌, ◌≤◌, min, Bool, true, ◌&&◌, List, length, take, drop, Option, None}
use Rattle.std.specs.Prelude.{Some, Result, OnOk, OnErr, IfOk}
use Rattle.disk_trait.specs.Files.{Files}
use Rattle.disk_trait.specs.Device.{Past, Elapses, LeavesNoMore, Follows, FileTorn, FileWritten, Rose}
use Rattle.disk_trait.specs.declared.device.File.{File}
use Rattle.disk_trait.specs.declared.device.File.TheVariants.{Log, Pages}

pub record FolderState : Type 1 where
  -- what reads give
  pub seen : Files
  -- the number of the moment
  pub clock : ℕ
  -- what a crash at a moment up to now may have left
  pub image : Past
  -- how often a call has answered an error, or a write has taken nothing
  pub errors : ℕ
  -- which of the files are there
  pub has : File → Bool
  -- which of them are there after a crash
  pub names : File → Bool

-- what a crash now may leave
abbrev pub left_now : FolderState → Files → Type 0
left_now s = s.image s.clock

-- a file that was there is there, and one that is there after a crash stays so
pub record Stays (old new : FolderState) : Type 0 where
  pub has : (f : File) → old.has f ≡ true → new.has f ≡ true
  pub names : (f : File) → old.names f ≡ true → new.names f ≡ true

-- Of a folder that says what it holds: no byte is another, and a crash now leaves what it could
-- have left.
pub record OnlyLooks (tells : Type 0) (old new : FolderState) : Type 0 where
  pub seen : tells → new.seen ≡ old.seen
  pub no_more : tells → LeavesNoMore (left_now old) (left_now new)
  pub no_less : LeavesNoMore (left_now new) (left_now old)
  pub time : Elapses old.clock new.clock old.image new.image
  pub stays : Stays old new

-- the same, in no time
abbrev pub StandsStill : Type 0 → FolderState → FolderState → Type 0
StandsStill tells old new = OnlyLooks tells old new × (new.clock ≡ old.clock)

-- Writes into this range of this file that aren't synced: a crash now may leave what it could have
-- left, also with the range torn.
pub record OnlyTears (tells : Type 0) (file : File) (at n : ℕ) (old new : FolderState) : Type 0 where
  pub torn : tells → Follows (FileTorn file at n) (left_now old) (left_now new)
  pub no_less : LeavesNoMore (left_now new) (left_now old)
  pub time : Elapses old.clock new.clock old.image new.image
  pub stays : Stays old new

-- A sync of a file, done or not: a crash now leaves what it could have left, or less.
pub record OnlySettles (tells : Type 0) (old new : FolderState) : Type 0 where
  pub seen : tells → new.seen ≡ old.seen
  pub no_more : tells → LeavesNoMore (left_now old) (left_now new)
  pub time : Elapses old.clock new.clock old.image new.image
  pub stays : Stays old new

-- A read that may be short: it gives bytes from this place on, and none only at the end.
pub record ReadsSome (bytes : List ℕ) (at : ℕ) (buf : List ℕ) (n : ℕ) : Type 0 where
  pub within : n ≤ min (length buf) (length bytes - at)
  pub same : take n buf ≡ take n (drop at bytes)
  pub at_end : n ≡ 0 → 0 < length buf → length bytes ≤ at

-- these bytes were written, and where there are none nothing is another
pub record HasPut (file : File) (at : ℕ) (bytes : List ℕ) (old new : Files) : Type 0 where
  pub none : length bytes ≡ 0 → new ≡ old
  pub some : 0 < length bytes → FileWritten file at bytes old new

-- `Err` is answered only where the count of errors rose
pub record Blames {T E : Type 0} (before now : ℕ) (result : Result T E) : Type 0 where
  pub later : before ≤ now
  pub failed : OnErr result (Rose before now)

-- a write that takes nothing of these bytes counts as an error too
abbrev pub TakesSome : {E : Type 0} → ℕ → ℕ → List ℕ → Result ℕ E → Type 0
TakesSome before now bytes result = IfOk result (λ n. n ≡ 0 → 0 < length bytes → Rose before now)

-- the file that is held, if one is, is this one, and it is there after a crash
abbrev pub is_held : {H : Type 0} → (H → File → Bool) → (File → Bool) → File → Option H → Bool
is_held locks names file None = true
is_held locks names file (Some h) = locks h file && names file

-- of what is held of both files, that of one, and that of the other
abbrev pub slot : {H : Type 0} → File → Option H → Option H → Option H
slot Log log pages = log
slot Pages log pages = pages

abbrev pub other_slot : {H : Type 0} → File → Option H → Option H → Option H
other_slot Log log pages = pages
other_slot Pages log pages = log

-- a handle that is held stays
abbrev pub StaysHeld : {H : Type 0} → Option H → Option H → Type 0
StaysHeld old new = (old ≢ None) → new ≡ old

-- A call on a file: its handle is held from the first call on that is done, and so its lock.
pub record Holds {H T E : Type 0} (file : File) (log pages log' pages' : Option H)
    (result : Result T E) : Type 0 where
  pub stays : StaysHeld (slot file log pages) (slot file log' pages')
  pub other : other_slot file log' pages' ≡ other_slot file log pages
  pub opened : OnOk result (slot file log' pages' ≢ None)
