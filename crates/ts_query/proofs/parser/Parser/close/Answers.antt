use Rattle.ts_query.proofs.Stacks.{close_took, close_never}
use Rattle.ts_query.proofs.parser.Parser.close.Goals as goal

pub returns-in-None : goal.returns-in-None
returns-in-None c s d h =
    close_never c.args.self.now c.apply_all.new.self s d h c.in_ok-apply_all.ensures c.in-None.ensures

pub returns-in-Some : goal.returns-in-Some
returns-in-Some c s d h =
    close_took c.args.self.now c.apply_all.new.self c.drop_top.new.self s c.in-Some.ensures.0 c.in-Some.field-0 d h
    c.in_ok-apply_all.ensures
    c.in-Some.ensures.1 c.drop_top.ensures.place
    (c.drop_top.ensures.ops c.in-Some.field-0 c.in-Some.ensures.0 c.in-Some.ensures.1) c.drop_top.ensures.out
