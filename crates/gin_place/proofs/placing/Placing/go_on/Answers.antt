use Rattle.std.proofs.Common.{true, Some, Ok, ◌-◌, refl, sym, subst}
use Rattle.gin_place.specs.Inner.Stepping.{GoesOn}
use Rattle.gin_place.specs.declared.placing.Stage.TheVariants as stage
use Rattle.gin_place.specs.declared.reading.Next.{Next}
use Rattle.gin_place.proofs.placing.Placing.go_on.Goals as goal

pub returns-in-Down : goal.returns-in-Down
returns-in-Down c =
    let old = c.args.self.now in
    let at = stage.At c.args.sought c.args.page c.in-Down.child in
    subst (λ (n : Next). GoesOn old (record old { stage = at; left = Some (c.args.left - 1) }) c.args.sought
    c.args.items.now c.args.page c.args.left n (Ok true)) (sym c.in-Down.is) (refl, refl)
