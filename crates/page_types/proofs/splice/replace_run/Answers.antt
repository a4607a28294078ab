use Rattle.std.proofs.Common.{◌-◌, length, take, drop, refl, arith}
use Rattle.std.proofs.lemmas.List.{take_rest}
use Rattle.page_types.proofs.Replacing.{run_shrunk, run_grown}
use Rattle.page_types.proofs.splice.replace_run.Goals as goal

pub returns-then-new-cut-clause-ok : goal.returns-then-new-cut-clause-ok
returns-then-new-cut-clause-ok g c =
    run_shrunk c.args.list.now.items c.put_over.new.list.items c.take_out.new.list.items c.args.new.now c.args.from
    c.args.to c.requires.in_order c.requires.within (omega arith) c.put_over.ensures c.take_out.ensures

pub returns-clause-ok : goal.returns-clause-ok
returns-clause-ok g c =
    run_grown c.args.list.now.items c.put_in.new.list.items c.put_over-2.new.list.items c.args.new.now
    (take (c.args.to - c.args.from) c.args.new.now) (take (length c.args.new.now - (c.args.to - c.args.from))
    (drop (c.args.to - c.args.from) c.args.new.now)) c.args.from c.args.to c.requires.in_order c.requires.within
    (omega arith) refl (take_rest c.args.new.now (c.args.to - c.args.from))
    c.in_ok-put_in.ensures.ok c.put_over-2.ensures
