-- What the calls of a device in memory do to a folder over it.
use Rattle.std.proofs.Common.{◌≡◌, ◌⊎◌, ℕ, ◌<◌, ◌≤◌, true, Bool, ◌&&◌, List, ◌++◌, length, refl, ◌∙◌, subst, ⊎_elim}
use Rattle.std.proofs.Common.{arith, length-append}
use Rattle.std.proofs.lemmas.List.{take-append-le}
use Rattle.disk_trait.specs.Device.{FileTorn, Follows, LeavesNoMore, LeavesAll, Elapses, Reads}
use Rattle.disk_trait.specs.declared.device.File.{File}
use Rattle.disk_trait.specs.declared.device.File.TheVariants.{Log, Pages}
use Rattle.disk_file.specs.Folder.{FolderState, left_now, Stays, OnlyTears, ReadsSome}
use Rattle.disk_file.specs.MemoryFolder.{is_same, is_locked}
use Rattle.disk_file.specs.declared.memory.MemoryHandle.{MemoryHandle}
use Rattle.disk_file.proofs.Steps.{torn_none, file_torn_within}

same_file : (a b : File) (locked : Bool) → (is_same a b && locked) ≡ true → a ≡ b
same_file Log Log locked is = refl
same_file Log Pages locked is = absurd cc
same_file Pages Log locked is = absurd cc
same_file Pages Pages locked is = refl

pub locks_same : (h : MemoryHandle) (f : File) → is_locked h f ≡ true → h.file ≡ f
locks_same h f is = same_file h.file f h.locked is

-- a read into a part of the buffer
pub reads_some : (bytes : List ℕ) (at : ℕ) (buf rest : List ℕ) (n : ℕ) → Reads bytes at buf n
    → (0 < length (buf ++ rest) → 0 < length buf) → ReadsSome bytes at (buf ++ rest) n
reads_some bytes at buf rest n reads some = record {
  within = omega (arith, reads.0, length-append buf rest);
  same = take-append-le n buf rest (omega (arith, reads.0)) ∙ reads.1;
  at_end = λ none room. omega (arith, reads.0, none, some room);
}

-- a write of a part of the range, done or not
pub tears_part : {X : Type 0} (tells : Type 0) (file f : File) (at k n : ℕ) (a b : FolderState)
    → file ≡ f → k ≤ n → Follows (FileTorn file at k) (left_now a) (left_now b)
    → (X × LeavesNoMore (left_now b) (left_now a))
    ⊎ LeavesAll (FileTorn file at k) (left_now a) (left_now b)
    → Elapses a.clock b.clock a.image b.image → Stays a b → OnlyTears tells f at n a b
tears_part {X} tells file f at k n a b same within torn all time stays =
    subst (λ g. OnlyTears tells g at n a b) same (record {
      torn = λ _ c left.
          let d = torn c left in
          (d.0, d.1, file_torn_within file at n at k d.0 c (omega arith) (omega (arith, within)) d.2);
      no_less = λ c left. ⊎_elim
          (λ (none : X × LeavesNoMore (left_now b) (left_now a)). none.1 c left)
          (λ (more : LeavesAll (FileTorn file at k) (left_now a) (left_now b)). more c c left (torn_none file at k c))
          all;
      time = time;
      stays = stays;
    })
