use Rattle.ts_parser.proofs.Chains.{links_from}
use Rattle.ts_parser.proofs.bytes.links_len.Goals as goal

pub loop-n-init : goal.loop-n-init
loop-n-init c = links_from c.args.u.now c.args.run c.requires
