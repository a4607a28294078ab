-- What reads of a folder in memory give is among what a crash may leave.
use Rattle.disk_trait.specs.Inner.Standing.{seen_is_image}
use Rattle.disk_file.specs.Folder.{left_now}
use Rattle.disk_file.specs.MemoryFolder.{folder_state}
use Rattle.disk_file.specs.declared.memory.MemoryFolder.{MemoryFolder}

pub memory_seen : (s : MemoryFolder) → left_now (folder_state s) (folder_state s).seen
memory_seen s = seen_is_image s.disk
