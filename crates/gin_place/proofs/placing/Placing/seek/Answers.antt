use Rattle.std.proofs.Common.{refl, inl, inr}
use Rattle.gin_place.proofs.Seeking.{begins_at}
use Rattle.gin_place.proofs.placing.Placing.seek.Goals as goal
use Rattle.gin_place.proofs.placing.Placing.seek.Goals.{in-None, in-Some}

pub returns : goal.returns
returns c =
    let b = begins_at c.args.tree c.args.items.now c.args.self.now.from c.root.result c.match-tree.sought
    c.if-self-items.false (elim c.match-tree.branch [
      | in-None w ↦ inl (w.in-None.is, w.sought-is)
      | in-Some w ↦ inr (w.in-Some.root, w.in-Some.is, w.sought-is)
    ]) c.root.ensures in
    (b.0, b.1, λ e. refl, refl, refl)
