-- What a source in memory has left, and what a sink in memory has taken.
use Rattle.std.specs.Prelude.{ℕ, List, drop}
use Rattle.disk_trait.specs.declared.schedule.Schedule.{Schedule}
use Rattle.disk_trait.specs.declared.source.MemorySource.{MemorySource}
use Rattle.disk_trait.specs.declared.sink.MemorySink.{MemorySink}

abbrev pub unread : MemorySource → List ℕ
unread s = drop s.place s.bytes.items

-- how many bytes a call gives at most
abbrev pub piece_of : MemorySource → ℕ
piece_of s = s.piece

abbrev pub source_schedule : MemorySource → Schedule
source_schedule s = s.schedule

abbrev pub taken_by : MemorySink → List ℕ
taken_by s = s.bytes.items

abbrev pub sink_schedule : MemorySink → Schedule
sink_schedule s = s.schedule
