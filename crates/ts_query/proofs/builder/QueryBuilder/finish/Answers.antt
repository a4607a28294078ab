use Rattle.std.proofs.Common.{◌≤◌, length, ap, sym, subst, ◌∙◌}
use Rattle.ts_query.specs.Postfix.{top}
use Rattle.ts_query.specs.Inner.Built.{trees_in, IsBuilt}
use Rattle.ts_query.proofs.Building.{whole_items, whole_sound}
use Rattle.ts_query.proofs.builder.QueryBuilder.finish.Goals as goal

pub finish-requires : goal.finish-requires
finish-requires c =
    let ts = trees_in c.self.inside.lists in
    let few : length ts ≤ 1 = subst (λ l. length l ≤ 1) (sym c.self.view_is) c.requires in (
      top ts,
      subst (IsBuilt c.self.inside.lists) (whole_items ts few) c.self.invariant.built,
      whole_sound ts few c.self.invariant.sound,
    )

pub returns-clause-value : goal.returns-clause-value
returns-clause-value c =
    let ts = trees_in c.self.inside.lists in
    let few : length ts ≤ 1 = subst (λ l. length l ≤ 1) (sym c.self.view_is) c.requires in
    c.finish.ensures.value (top ts) (subst (IsBuilt c.self.inside.lists) (whole_items ts few) c.self.invariant.built)
    ∙ ap top c.self.view_is
