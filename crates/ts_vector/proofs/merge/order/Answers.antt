use Rattle.std.proofs.Common.{◌∙◌, arith}
use Rattle.std.specs.Ordering.{nat_cmp}
use Rattle.std.specs.Cmp.Lexicographic.{slice_cmp}
use Rattle.ts_vector.proofs.Joining.{heads}
use Rattle.ts_vector.proofs.merge.order.Goals as goal

pub returns : goal.returns
returns c =
    let v = c.args.first.now in
    let w = c.args.second.now in
    heads v c.args.i w c.args.j c.cmp.result (omega (arith, c.len-2.ensures)) (omega (arith, c.len.ensures))
    (λ d. c.cmp.ensures ∙ (λ t. slice_cmp nat_cmp (c.lexeme.ensures d t) (c.lexeme-2.ensures d t)))
