use Rattle.ts_query.proofs.Stacks.{start_whole, due_unfinished, held_whole, held_unfinished}
use Rattle.ts_query.proofs.parser.Parser.finish.Goals as goal

pub returns-in-Start : goal.returns-in-Start
returns-in-Start c s h = start_whole c.args.self s c.in-Start.is h

pub returns-in-Due : goal.returns-in-Due
returns-in-Due c s h = due_unfinished c.args.self s c.in-Due.is h

pub returns-in-None : goal.returns-in-None
returns-in-None c s h =
    held_whole c.args.self c.apply_all.new.self s c.in-Held.is h c.in_ok-apply_all-in-Held.ensures c.in-None.ensures

pub returns-in-Some : goal.returns-in-Some
returns-in-Some c s h = held_unfinished c.args.self c.apply_all.new.self s c.in-Some.ensures.0 c.in-Some.field-0
    c.in-Held.is h c.in_ok-apply_all-in-Held.ensures c.in-Some.ensures.1
