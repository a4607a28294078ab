-- How a log begins.
use Rattle.std.specs.Prelude.{◌≡◌, ℕ, ◌≤◌, ⊤, List, length, take}
use Rattle.wal.specs.Batches.{header, IsUnborn}
use Rattle.wal.specs.Reading.{IsForeign}
use Rattle.wal.specs.declared.beginning.Beginning.{Beginning}
use Rattle.wal.specs.declared.beginning.Beginning.TheVariants.{Unborn, Foreign, Header}
use Rattle.wal.specs.declared.sizes.TheConstants.{HEADER_BYTES, CREATED_BYTES}

abbrev pub BeginsSo : List ℕ → Beginning → Type 0
BeginsSo log Unborn = IsUnborn log
BeginsSo log Foreign = IsForeign log
BeginsSo log (Header size) = (size ≡ length log) × (take HEADER_BYTES log ≡ header)

-- so many bytes are enough for a log
abbrev pub IsLongEnough : Beginning → Type 0
IsLongEnough (Header size) = CREATED_BYTES ≤ size
IsLongEnough b = ⊤
