use Rattle.std.proofs.Common.{◌+◌, ◌%◌, refl, arith}
use Rattle.posting_code.proofs.Loops.{putting_goes_on, putting_ends}
use Rattle.posting_code.proofs.writing.put_varbyte.Goals as goal

pub loop-high-preserved : goal.loop-high-preserved
loop-high-preserved c = putting_goes_on c.args.out.now.items c.loop-high.out.items c.push.new.self.items c.args.n
    c.loop-high.high (c.loop-high.high % 128 + 128) c.loop-high.invariant (omega arith) refl c.in_ok-push.ensures.items

pub returns-clause-ok : goal.returns-clause-ok
returns-clause-ok c = putting_ends c.args.out.now.items c.loop-high.out.items c.push-2.new.self.items c.args.n
    c.loop-high.high c.loop-high.high c.loop-high.invariant (omega arith) refl c.in_ok-push-2.ensures.items
