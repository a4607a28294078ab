use Rattle.std.proofs.Common.{rules, ◌≡◌, ◌+◌, arith}
use Rattle.disk_trait.proofs.disk.MemoryDisk.try_sync.Goals as goal

pub returns-in-Ok-clause-keeps : goal.returns-in-Ok-clause-keeps
returns-in-Ok-clause-keeps c =
    let next : c.begin_write.new.self.schedule.calls ≡ c.args.self.now.schedule.calls + 1 = grind arith in
    (c.begin_write.new.self, c.begin_write.ensures.files.0, c.begin_write.ensures.files.1, next, search rules)
