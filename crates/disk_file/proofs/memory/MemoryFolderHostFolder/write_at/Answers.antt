use Rattle.std.proofs.Common.{length, arith, length-take}
use Rattle.disk_file.specs.MemoryFolder.{folder_state}
use Rattle.disk_file.proofs.InMemory.{locks_same, tears_part}
use Rattle.disk_file.proofs.memory.MemoryFolderHostFolder.write_at.Goals as goal

pub returns-in-Err-clause-tears : goal.returns-in-Err-clause-tears
returns-in-Err-clause-tears c = λ f is.
    tears_part (Unit {0}) c.args.handle.now.file f c.args.at _ (length c.args.bytes.now)
    (folder_state c.args.self.now) _
    (locks_same c.args.handle.now f is) (omega (arith, length-take c.min-most.result c.args.bytes.now))
    c.write_at.ensures.crash c.write_at.ensures.torn c.write_at.ensures.time
    (record { has = λ _ was. was; names = λ _ was. was })
