use Rattle.std.proofs.Common.{subst, Bool}
use Rattle.porter_stem.specs.Shapes.{Follows}
use Rattle.porter_stem.proofs.Snoc.{shape_more, follows_bound}
use Rattle.porter_stem.proofs.shape.shape_of.Goals as goal

pub loop-letter-preserved : goal.loop-letter-preserved
loop-letter-preserved c = record {
  bound = follows_bound _ _ _ _ c.behind-shape.ensures c.loop-letter.invariant.bound;
  shape = shape_more _ _ _ _ c.loop-letter-test.true c.loop-letter.invariant.shape
      (subst (λ (kind : Bool). Follows c.loop-letter.shape kind c.behind-shape.result) c.is_consonant_behind.ensures
      c.behind-shape.ensures);
}
