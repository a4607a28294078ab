use Rattle.std.proofs.lemmas.Result.{err_from_is_err_and}
use Rattle.ts_make.proofs.Steps.{write_value, write_refused, write_fails}
use Rattle.ts_make.proofs.maker.QueryMaker.write.Goals as goal

pub returns-in_err-write_groups-clause-refused : goal.returns-in_err-write_groups-clause-refused
returns-in_err-write_groups-clause-refused c =
    let p = err_from_is_err_and c.from_residual.result c.from_residual.ensures.1 in
    rw (p.1, p.2) (write_refused c.args.marks.weights c.args.marks.prefix
    c.in_err-write_groups.field-0.0 c.args.self.now c.args.placed.items
    c.in_err-write_groups.ensures.refused)

pub returns-clause-value : goal.returns-clause-value
returns-clause-value c =
    write_value c.args.marks.weights c.args.marks.prefix c.add_part.result c.args.self.now
    c.add_part.new.self c.args.placed.items c.write_groups.new.builder
    c.in_ok-write_groups.ensures.value
    (rw c.near_part.ensures at c.add_part.ensures.parts) c.add_part.ensures.trees
    c.add_part.ensures.removed c.add_part.ensures.few

pub returns-clause-refused : goal.returns-clause-refused
returns-clause-refused c =
    write_fails c.args.marks.weights c.args.marks.prefix c.add_part.result c.args.self.now
    c.args.placed.items c.write_groups.new.builder c.in_ok-write_groups.ensures.value
    c.add_part.ensures.refused
