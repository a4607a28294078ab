use Rattle.std.proofs.Common.{rules, inr, ◌≡◌, ◌+◌, arith}
use Rattle.disk_trait.proofs.disk.MemoryDisk.try_write.Goals as goal

pub returns-in-Ok-clause-keeps : goal.returns-in-Ok-clause-keeps
returns-in-Ok-clause-keeps c =
    let next : c.begin_write-goes.new.self.schedule.calls ≡ c.args.self.now.schedule.calls + 1 = grind arith in
    inr (
      c.begin_write-goes.new.self,
      c.begin_write-goes.ensures.files.0,
      c.begin_write-goes.ensures.files.1,
      next,
      search rules,
    )
