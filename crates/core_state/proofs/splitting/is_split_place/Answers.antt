use Rattle.std.proofs.Common.{arith}
use Rattle.core_state.specs.TreeRules.{KeepsHalf}
use Rattle.core_state.proofs.SplitPlaces.{longest_place, place_longest}
use Rattle.core_state.proofs.LongestParts.{halves_under}
use Rattle.core_state.proofs.splitting.is_split_place.Goals as goal

pub returns : goal.returns
returns c =
    let old = c.args.old.now.body in
    let left = c.args.left.now.body in
    let less : KeepsHalf old left → ⊥ =
    λ k. omega (arith, k, c.if-listed_size-front.false, c.listed_size.ensures, c.listed_size-front.ensures) in (
      λ e. longest_place old left less (halves_under c.args.old.now c.args.left.now c.args.right.now.body
          c.requires.old c.requires.left c.requires.halves) (c.is_longest.ensures.0 e),
      λ p. c.is_longest.ensures.1 (place_longest old left less p),
    )
