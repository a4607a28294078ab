use Rattle.std.proofs.Common.{◌∙◌}
use Rattle.ts_make.proofs.Making.{few_trees, top_left}
use Rattle.ts_make.proofs.maker.QueryMaker.finish.Goals as goal

pub finish-requires : goal.finish-requires
finish-requires c =
    let h = c.requires in
    few_trees c.args.self.parts.items c.args.self.builder c.args.self.removed h.0 h.2.kept h.1

pub returns-clause-value : goal.returns-clause-value
returns-clause-value c = λ ds few m.
    c.finish.ensures.value ∙ top_left c.args.self.parts.items c.args.self.builder
    c.args.self.removed ds m.kept few
