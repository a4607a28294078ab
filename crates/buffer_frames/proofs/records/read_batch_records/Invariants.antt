use Rattle.std.proofs.Common.{◌≡◌, ◌≤◌, ℕ, List, length}
use Rattle.wal.specs.Reading.{IsOnlyRead}
use Rattle.core_state.specs.Log.{Log}
use Rattle.buffer_frames.specs.Inner.Reads.{IsRead}
use Rattle.buffer_frames.proofs.BatchReading.{ReadsSoFar}
use Rattle.buffer_frames.proofs.records.read_batch_records.Given as goal

abbrev pub invariant-loop-rest : goal.invariant-loop-rest
invariant-loop-rest g l = record {
  only : IsOnlyRead g.D.Disk l.fn.disk l.disk;
  time : g.D.Disk.clock l.fn.disk ≤ g.D.Disk.clock l.disk;
  later : g.D.Disk.fault_count l.fn.disk ≤ g.D.Disk.fault_count l.disk;
  no_write : g.D.Disk.write_fault_count l.disk ≡ g.D.Disk.write_fault_count l.fn.disk;
  so_far : (file : List ℕ) (pages xid_limit : ℕ) (R : Log) → IsRead g.D.Disk l.fn.disk file pages xid_limit
      l.fn.state.value l.fn.map R
      → ReadsSoFar g.D.Disk l.disk file pages xid_limit l.state.value l.map R l.bytes l.rest;
}

abbrev pub decreases-loop-rest : goal.decreases-loop-rest
decreases-loop-rest g l = length l.rest
