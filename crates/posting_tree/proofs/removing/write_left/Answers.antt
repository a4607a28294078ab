use Rattle.std.proofs.Common.{◌≡◌, ◌++◌, sym, ap, ◌∙◌}
use Rattle.std.specs.Cmp.Lexicographic.{bytes_decides}
use Rattle.posting_tree.proofs.LeftLists.{same_left, none_gone}
use Rattle.posting_tree.proofs.removing.write_left.Goals as goal

pub returns-clause-same : goal.returns-clause-same
returns-clause-same c =
    let w = c.in_ok-without.ensures.ok in
    let made : c.as_slice.result.now ≡ w.0 =
    c.as_slice.ensures.value ∙ w.1 ∙ ap (λ l. l ++ w.0) c.clear.ensures.items in
    let decides = bytes_decides c.as_slice.result.now c.args.list.now in (
      λ e. none_gone c.args.list.now c.args.dead.now w.0 w.2 (sym made ∙ decides.0 (sym c.eq.ensures ∙ e)),
      λ h. c.eq.ensures ∙ decides.1 (made ∙ same_left c.args.list.now c.args.dead.now w.0 c.requires w.2 h),
    )
