use Rattle.disk_trait.proofs.Calls.{idle_crash, idle_keeps, idle_time}
use Rattle.disk_trait.proofs.disk.MemoryDisk.start.Goals as goal

pub returns : goal.returns
returns c =
    let was = c.begin_read.ensures in
    record {
      seen = was.seen;
      crash = idle_crash c.args.self.now c.begin_read.new.self was.idle;
      keeps = idle_keeps c.args.self.now c.begin_read.new.self was.idle;
      time = idle_time c.args.self.now c.begin_read.new.self was.idle;
      cause = was.cause;
      writes = was.writes;
      counted = was.counted;
      fails = was.fails;
    }
