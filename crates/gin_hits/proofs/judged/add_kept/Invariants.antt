use Rattle.std.proofs.Common.{◌≡◌, ◌++◌, ℕ, Bool, List, length, take, All}
use Rattle.gin_opclass.specs.Class.{meaning}
use Rattle.core_moments.specs.Walk.{Walk}
use Rattle.gin_hits.specs.Sides.{TellOfWalk, WasRead, AreKeptOf}
use Rattle.gin_hits.proofs.judged.add_kept.Given as goal

abbrev pub invariant-loop-item : goal.invariant-loop-item
invariant-loop-item g l = record {
  serves : g.J.Judge.serves l.work l.query;
  count : length l.judging.values.items ≡ length (g.W.Meaning.asked l.query);
  kept : (w : Walk) → TellOfWalk (g.W.Meaning.asked l.query) w l.pending l.main l.first_item
      → All (WasRead w) l.items → (more : List (ℕ × Bool))
      × (l.kept.items ≡ l.fn.kept.items ++ more)
      × AreKeptOf (meaning g.W.Meaning.asked g.W.Meaning.all g.W.Meaning.satisfies g.W.Meaning.judged) l.query w
      (take l.item-index l.items) more;
}
