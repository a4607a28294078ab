-- How far the calls have come that make a whole one.
use Rattle.std.specs.Prelude.{◌≡◌, ℕ, ◌-◌, ◌<◌, ◌≤◌, List, length, take, drop}
use Rattle.disk_trait.specs.Files.{file_bytes}
use Rattle.disk_trait.specs.Device.{Rose}
use Rattle.disk_trait.specs.declared.device.File.{File}
use Rattle.disk_file.specs.Folder.{FolderState, OnlyLooks, OnlyTears, HasPut}

-- so many turns, each of them an error
pub record ErrsOnly (tells : Type 0) (turns : ℕ) (old now : FolderState) : Type 0 where
  pub later : tells → old.errors ≤ now.errors
  pub rose : tells → 0 < turns → Rose old.errors now.errors

pub record LooksInVain (tells : Type 0) (turns : ℕ) (old now : FolderState) : Type 0 where
  pub looks : OnlyLooks tells old now
  pub errs : ErrsOnly tells turns old now

pub record WritesInVain (tells : Type 0) (locked : File → Type 0) (turns at n : ℕ)
    (old now : FolderState) : Type 0 where
  pub seen : tells → now.seen ≡ old.seen
  pub tears : (f : File) → locked f → OnlyTears tells f at n old now
  pub errs : ErrsOnly tells turns old now

-- so many bytes were read
pub record HasRead (tells : Type 0) (locked : File → Type 0) (at got : ℕ) (buf : List ℕ)
    (old now : FolderState) : Type 0 where
  pub within : got ≤ length buf
  pub looks : OnlyLooks tells old now
  pub later : tells → old.errors ≤ now.errors
  pub no_more : tells → (f : File) → locked f → got ≤ length (file_bytes f old.seen) - at
  pub bytes : tells → (f : File) → locked f
      → take got buf ≡ take got (drop at (file_bytes f old.seen))

-- so many of the bytes were written
pub record HasWritten (tells : Type 0) (locked : File → Type 0) (at put : ℕ) (bytes : List ℕ)
    (old now : FolderState) : Type 0 where
  pub within : put ≤ length bytes
  pub tears : (f : File) → locked f → OnlyTears tells f at (length bytes) old now
  pub later : tells → old.errors ≤ now.errors
  pub written : tells → (f : File) → locked f → HasPut f at (take put bytes) old.seen now.seen
