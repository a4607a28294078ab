use Rattle.std.proofs.Common.{◌∙◌}
use Rattle.std.specs.Prelude.{slice_set}
use Rattle.std.proofs.lemmas.List.{map-set}
use Rattle.ts_config.proofs.config.Config.set.Goals as goal

pub returns : goal.returns
returns c = map-set (λ v. v.items) c.self.inside.lists.items c.type_index.result c.args.places
    ∙ (λ i. slice_set (c.self.view_is i) (c.type_index.ensures.place i) c.args.places.items)
