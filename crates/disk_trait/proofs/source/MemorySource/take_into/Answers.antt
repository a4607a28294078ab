use Rattle.std.proofs.Common.{rules, refl, ◌-◌, length, arith}
use Rattle.disk_trait.proofs.Pieces.{piece_taken}
use Rattle.disk_trait.proofs.source.MemorySource.take_into.Goals as goal

pub returns-clause-bytes : goal.returns-clause-bytes
returns-clause-bytes c =
    piece_taken c.args.self.now.bytes.items c.args.buf.now c.copy_from_slice.new.self c.args.self.now.place
    c.min-n.result (length c.args.self.now.bytes.items - c.args.self.now.place) (search rules) refl (omega arith)
