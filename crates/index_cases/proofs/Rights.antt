-- The right of maintenance stays.
use Rattle.std.proofs.Common.{◌≡◌, ◌≤◌, ◌∙◌, arith}
use Rattle.buffer_frames.specs.declared.pass.Pass.{Pass}
use Rattle.gin_place.specs.Placing.{HasRight}

-- where the pass has seen no less
pub right_stays : (p q : Pass) → HasRight p → q.work ≡ p.work → p.seen ≤ q.seen → HasRight q
right_stays p q right same le = record {
  at = right.at;
  has = same ∙ right.has;
  within = omega (arith, right.within, le);
}
