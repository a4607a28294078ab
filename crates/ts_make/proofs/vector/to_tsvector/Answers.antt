use Rattle.ts_config.proofs.Placing.{positions_rise}
use Rattle.ts_make.proofs.vector.to_tsvector.Goals as goal

pub builder_of-requires : goal.builder_of-requires
builder_of-requires c =
    (positions_rise c.args.configs.now c.args.config.now c.args.text.now c.in-Ok.placed.items
    c.in-Ok.ensures).0
