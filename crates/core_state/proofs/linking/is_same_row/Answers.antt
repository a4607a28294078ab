use Rattle.std.proofs.Common.{◌≡◌, sym, ◌∙◌}
use Rattle.std.proofs.lemmas.Bool.{not-false}
use Rattle.std.specs.Cmp.Lexicographic.{bytes_decides}
use Rattle.page_types.specs.Parts.{pieces_shown}
use Rattle.core_state.proofs.FollowingRows.{drop_same}
use Rattle.core_state.proofs.linking.is_same_row.Goals as goal

pub loop-j-preserved : goal.loop-j-preserved
loop-j-preserved c =
    let one : c.at.result.now ≡ c.at-in-loop-j.result.now =
    (bytes_decides c.at.result.now c.at-in-loop-j.result.now).0 (not-false _ (sym c.ne.ensures ∙ c.if-ne.false)) in
    let same = drop_same (pieces_shown c.args.a.keys) (pieces_shown c.args.b.keys) c.loop-j.j c.at.result.now
    c.at-in-loop-j.result.now c.at.ensures c.at-in-loop-j.ensures one in (
      λ e. same.0 (c.loop-j.invariant.0 e),
      λ d. c.loop-j.invariant.1 (same.1 d),
    )
