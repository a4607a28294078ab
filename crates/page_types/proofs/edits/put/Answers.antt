use Rattle.std.proofs.Common.{arith}
use Rattle.page_types.proofs.Framing.{put_over}
use Rattle.page_types.proofs.edits.put.Goals as goal

pub returns : goal.returns
returns c = put_over c.args.at _ c.args.out.now c.copy_from_slice.new.self c.args.bytes.now
    (omega arith) c.copy_from_slice.ensures.after
