use Rattle.std.proofs.Common.{◌≡◌, ◌≤◌, take}
use Rattle.wal.specs.Reading.{IsOnlyRead}
use Rattle.buffer_frames.specs.Inner.Reads.{MakesChanges}
use Rattle.buffer_frames.proofs.records.change_pages.Given as goal

abbrev pub invariant-loop-change : goal.invariant-loop-change
invariant-loop-change g l = record {
  only : IsOnlyRead g.D.Disk l.fn.disk l.disk;
  time : g.D.Disk.clock l.fn.disk ≤ g.D.Disk.clock l.disk;
  later : g.D.Disk.fault_count l.fn.disk ≤ g.D.Disk.fault_count l.disk;
  no_write : g.D.Disk.write_fault_count l.disk ≡ g.D.Disk.write_fault_count l.fn.disk;
  made : g.D.Disk.tells → MakesChanges (g.D.Disk.seen l.fn.disk).pages l.fn.map l.map l.rec.number
      (take l.change-index l.change-items);
}
