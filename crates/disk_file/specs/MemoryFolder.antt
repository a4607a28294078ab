-- A folder in memory as its calls leave it.
use Rattle.std.specs.Prelude.{Bool, true, false, ◌&&◌}
use Rattle.disk_trait.specs.MemoryDisk.{seen_of, image_of, clock_of, faults_of}
use Rattle.disk_trait.specs.declared.device.File.{File}
use Rattle.disk_trait.specs.declared.device.File.TheVariants.{Log, Pages}
use Rattle.disk_trait.specs.declared.disk.MemoryDisk.{MemoryDisk}
use Rattle.disk_file.specs.Folder.{FolderState}
use Rattle.disk_file.specs.declared.memory.MemoryFolder.{MemoryFolder}
use Rattle.disk_file.specs.declared.memory.MemoryHandle.{MemoryHandle}
use Rattle.disk_file.specs.declared.memory.Name.{Name}

abbrev pub is_same : File → File → Bool
is_same Log Log = true
is_same Log Pages = false
is_same Pages Log = false
is_same Pages Pages = true

abbrev pub name_of : MemoryFolder → File → Name
name_of s Log = s.log
name_of s Pages = s.pages

abbrev pub disk_of : MemoryFolder → MemoryDisk
disk_of s = s.disk

abbrev pub folder_state : MemoryFolder → FolderState
folder_state s = record {
  seen = seen_of s.disk;
  clock = clock_of s.disk;
  image = image_of s.disk;
  errors = faults_of s.disk;
  has = λ f. (name_of s f).made;
  names = λ f. (name_of s f).kept;
}

abbrev pub is_of : MemoryHandle → File → Bool
is_of h file = is_same h.file file

abbrev pub is_locked : MemoryHandle → File → Bool
is_locked h file = is_same h.file file && h.locked
