use Rattle.std.proofs.Common.{ℕ, ap}
use Rattle.page_types.specs.declared.record.Kind.TheVariants as kind
use Rattle.engine.proofs.HeadChanges.{one_left}
use Rattle.engine.proofs.changes.place_step.Goals as goal

pub returns-clause-step : goal.returns-clause-step
returns-clause-step c =
    one_left _ _ c.args.xid c.new-step.result c.leave.new.self c.new.result c.args.number c.args.page
    c.new-step.ensures (ap (λ (i : ℕ). kind.PlaceHead i 0) c.item_of.ensures) c.new.ensures c.in_ok-leave.ensures.ok
