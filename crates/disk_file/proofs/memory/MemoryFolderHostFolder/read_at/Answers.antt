use Rattle.std.proofs.Common.{◌++◌, drop, subst, arith, length-append, length-take, length-drop}
use Rattle.disk_trait.specs.Files.{file_bytes}
use Rattle.disk_trait.specs.MemoryDisk.{seen_of}
use Rattle.disk_file.specs.Folder.{ReadsSome}
use Rattle.disk_file.proofs.InMemory.{locks_same, reads_some}
use Rattle.disk_file.proofs.memory.MemoryFolderHostFolder.read_at.Goals as goal

pub returns-in-Ok-clause-bytes : goal.returns-in-Ok-clause-bytes
returns-in-Ok-clause-bytes c = λ _ f is.
    subst (λ g. ReadsSome (file_bytes g (seen_of c.args.self.now.disk)) c.args.at
    (c.read.new.buf ++ drop c.min-most.result c.args.buf.now) c.in-Ok.n)
    (locks_same c.args.handle.now f is)
    (reads_some (file_bytes c.args.handle.now.file (seen_of c.args.self.now.disk)) c.args.at c.read.new.buf
    (drop c.min-most.result c.args.buf.now) c.in-Ok.n c.in-Ok.ensures.bytes
    (λ room. omega (
      arith,
      room,
      c.read.auto.buf,
      c.min-most.ensures,
      c.args.self.now.some,
      length-take c.min-most.result c.args.buf.now,
      length-drop c.min-most.result c.args.buf.now,
      length-append c.read.new.buf (drop c.min-most.result c.args.buf.now),
    )))
