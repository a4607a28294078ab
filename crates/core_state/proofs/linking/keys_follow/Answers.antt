use Rattle.std.proofs.Common.{◌≡◌, ◌-◌, suc, length, arith}
use Rattle.page_types.specs.Parts.{pieces_shown}
use Rattle.core_state.proofs.FollowingRows.{follow_by, by_follow}
use Rattle.core_state.proofs.linking.keys_follow.Goals as goal

pub returns : goal.returns
returns c =
    let before = pieces_shown c.args.before in
    let keys = pieces_shown c.args.keys in
    let last : suc (c.len-2.result - 1) ≡ length before =
    omega (arith, c.len.ensures, c.len-2.ensures, c.if-len-eq0.false) in (
      λ e. follow_by before keys (c.len-2.result - 1) c.at.result.now c.at-2.result.now last c.at.ensures
          c.at-2.ensures (c.is_below.ensures.0 e),
      λ f. c.is_below.ensures.1 (by_follow before keys (c.len-2.result - 1) c.at.result.now c.at-2.result.now last
          c.at.ensures c.at-2.ensures f),
    )
