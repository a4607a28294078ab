-- What a call of the log leaves of the page file.
use Rattle.std.specs.Prelude.{◌≡◌}
use Rattle.disk_trait.specs.Files.{Files}
use Rattle.disk_trait.specs.Runs.{images_now, LeavesOnly}
use Rattle.disk_trait.specs.declared.device.Disk.{Ghosts as Disk}

-- the pages of an earlier image
abbrev pub HasPagesOf : (Files → Type 0) → Files → Type 0
HasPagesOf images c = (d : Files) × images d × (c.pages ≡ d.pages)

-- at each moment a crash leaves pages that it could have left before
abbrev pub KeepsPages : {D : Type 0} → Disk D → D → D → Type 0
KeepsPages device old new = LeavesOnly device old new (HasPagesOf (images_now device old))
