use Rattle.std.proofs.Common.{Bool, cond, sym, ap}
use Rattle.ts_base.specs.declared.Tri.TheVariants.{True}
use Rattle.gin_hits.proofs.judged.value_of.Goals as goal

pub returns-then-is_there : goal.returns-then-is_there
returns-then-is_there c = (
  c.has_near-is_there.result.0,
  c.has_near-is_there.ensures,
  ap (λ (b : Bool). cond b True c.args.absent) (sym c.if-is_there.true),
)

pub returns-else-is_there : goal.returns-else-is_there
returns-else-is_there c = (
  c.has_near-is_there.result.0,
  c.has_near-is_there.ensures,
  ap (λ (b : Bool). cond b True c.args.absent) (sym c.if-is_there.false),
)
