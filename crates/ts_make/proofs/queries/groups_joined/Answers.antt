use Rattle.std.proofs.lemmas.Result.{err_from_is_err_and}
use Rattle.ts_make.proofs.GroupQueries.{without_weights, groups_few, groups_value, groups_fail}
use Rattle.ts_make.proofs.queries.groups_joined.Goals as goal

pub finish-requires : goal.finish-requires
finish-requires c =
    let none = without_weights c.default.result c.default.ensures in
    let w = rw (none, c.new-builder.ensures) at c.in_ok-write_groups.ensures.value in
    groups_few c.args.configs.now c.args.config.now c.args.text.now c.args.way
    c.in_ok-placed.placed.items c.in_ok-placed.ensures c.write_groups.new.builder w

pub returns-in_err-write_groups-clause-refused : goal.returns-in_err-write_groups-clause-refused
returns-in_err-write_groups-clause-refused c =
    let p =
    err_from_is_err_and c.from_residual-in_err-write_groups.result
    c.from_residual-in_err-write_groups.ensures.1 in
    let none = without_weights c.default.result c.default.ensures in
    let w = rw (none, c.new-builder.ensures) at c.in_err-write_groups.ensures.refused in
    rw (p.1, p.2) (groups_fail c.args.configs.now c.args.config.now c.args.text.now c.args.way
    c.in_ok-placed.placed.items c.in_ok-placed.ensures c.in_err-write_groups.field-0.0 w)

pub returns-clause-value : goal.returns-clause-value
returns-clause-value c =
    let none = without_weights c.default.result c.default.ensures in
    let w = rw (none, c.new-builder.ensures) at c.in_ok-write_groups.ensures.value in
    groups_value c.args.configs.now c.args.config.now c.args.text.now c.args.way
    c.in_ok-placed.placed.items c.in_ok-placed.ensures c.write_groups.new.builder c.finish.result w
    c.finish.ensures.value c.finish.ensures.sound.nodes
