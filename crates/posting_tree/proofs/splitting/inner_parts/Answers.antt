use Rattle.std.proofs.Common.{◌≡◌, suc, length, arith}
use Rattle.posting_code.specs.declared.dividing.Keep.TheVariants.{Half, Most}
use Rattle.posting_tree.proofs.InnerParts.{inner_half, inner_most, inner_made}
use Rattle.posting_tree.proofs.splitting.inner_parts.Goals as goal
use Rattle.posting_tree.proofs.splitting.inner_parts.Goals.{in-Half, in-Most}

pub returns-clause-cut : goal.returns-clause-cut
returns-clause-cut c =
    let children = c.args.children.now in
    let k = c.match-keep.place in
    elim c.match-keep.branch [
      | in-Half w ↦ inner_made children c.in_ok-left.left c.in_ok-right.right k Half c.args.keep c.in_ok-left.ensures
          c.in_ok-right.ensures w.in-Half.is (inner_half children k c.requires.two c.requires.fits w.place-is)
      | in-Most w ↦
          let last : suc k ≡ length children = omega (arith, w.place-is, c.requires.two) in
          inner_made children c.in_ok-left.left c.in_ok-right.right k Most c.args.keep c.in_ok-left.ensures
          c.in_ok-right.ensures w.in-Most.is (inner_most children k c.requires.two c.requires.fits last)
    ]
