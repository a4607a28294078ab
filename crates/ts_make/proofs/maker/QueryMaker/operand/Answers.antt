use Rattle.ts_make.proofs.Steps.{none_placed, some_placed, stopped_value, stopped_fails, written_value, written_fails}
use Rattle.ts_make.proofs.maker.QueryMaker.operand.Goals as goal

pub returns-then-is_empty-clause-value : goal.returns-then-is_empty-clause-value
returns-then-is_empty-clause-value c =
    stopped_value c.args.configs.now c.args.config.now c.args.text.now c.args.weights c.args.prefix
    c.stop.result c.args.self.now c.stop.new.self c.in_ok-placed.placed.items c.in_ok-placed.ensures
    (none_placed c.in_ok-placed.placed.items c.in_ok-placed.placed.len c.is_empty.result
    c.in_ok-placed.placed.ok.0 c.is_empty.ensures c.if-is_empty.true) c.stop.ensures.value

pub returns-then-is_empty-clause-refused : goal.returns-then-is_empty-clause-refused
returns-then-is_empty-clause-refused c =
    stopped_fails c.args.configs.now c.args.config.now c.args.text.now c.args.weights c.args.prefix
    c.stop.result c.args.self.now c.requires.making.0 c.in_ok-placed.placed.items
    c.in_ok-placed.ensures
    (none_placed c.in_ok-placed.placed.items c.in_ok-placed.placed.len c.is_empty.result
    c.in_ok-placed.placed.ok.0 c.is_empty.ensures c.if-is_empty.true) c.requires.making.1
    c.stop.ensures.refused

pub returns-clause-value : goal.returns-clause-value
returns-clause-value c =
    written_value c.args.configs.now c.args.config.now c.args.text.now c.args.weights c.args.prefix
    c.write.result c.args.self.now c.write.new.self c.in_ok-placed.placed.items
    c.in_ok-placed.ensures
    (some_placed c.in_ok-placed.placed.items c.in_ok-placed.placed.len c.is_empty.result
    c.in_ok-placed.placed.ok.0 c.is_empty.ensures c.if-is_empty.false) c.write.ensures.value

pub returns-clause-refused : goal.returns-clause-refused
returns-clause-refused c =
    written_fails c.args.configs.now c.args.config.now c.args.text.now c.args.weights c.args.prefix
    c.write.result c.args.self.now c.requires.making.0 c.in_ok-placed.placed.items
    c.in_ok-placed.ensures
    (some_placed c.in_ok-placed.placed.items c.in_ok-placed.placed.len c.is_empty.result
    c.in_ok-placed.placed.ok.0 c.is_empty.ensures c.if-is_empty.false) c.requires.making.1
    c.write.ensures.refused
