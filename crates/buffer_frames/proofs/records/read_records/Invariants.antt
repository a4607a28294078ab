use Rattle.std.proofs.Common.{◌≡◌, ◌≤◌}
use Rattle.wal.specs.Reading.{IsOnlyRead, IsSameBut}
use Rattle.buffer_frames.proofs.Loading.{Loads}
use Rattle.buffer_frames.proofs.records.read_records.Given as goal

abbrev pub invariant-loop : goal.invariant-loop
invariant-loop g l = record {
  only : IsOnlyRead g.D.Disk l.fn.disk l.disk;
  time : g.D.Disk.clock l.fn.disk ≤ g.D.Disk.clock l.disk;
  later : g.D.Disk.fault_count l.fn.disk ≤ g.D.Disk.fault_count l.disk;
  no_write : g.D.Disk.write_fault_count l.disk ≡ g.D.Disk.write_fault_count l.fn.disk;
  same : IsSameBut l.fn.wal l.wal;
  loads : Loads g.D.Disk l.fn.disk l.disk l.wal l.fn.state.value.pages l.fn.state.value.xid_limit l.state.value l.map;
}
